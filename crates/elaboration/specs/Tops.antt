-- Which module of a text is the design, and what its instances ask of the modules together (IEEE 1364-2005, 12.1.1, 12.1.2).
use Rattle.std.specs.Prelude.{Bool, false, ℕ, zero, suc, nat_eq, ◌&&◌, ◌||◌, not, List, [], ◌∷◌, length, Option, None, Some}
use Rattle.std.specs.List.{filter, find, list_any}
use Rattle.std.specs.Map.{lookup}
use Rattle.std.specs.Option.{option_map_or}
use Rattle.vtext.specs.declared.fault.ReadFault.{ReadFault}
use Rattle.vtext.specs.declared.fault.ReadFaultKind.TheVariants.{ManyTops, NoTop, Recursive}
use Rattle.vtext.specs.Modules.{ModuleEntry}
use Rattle.elaboration.specs.Ports.{fault_at}

-- a module has an instance of the module of this name
abbrev pub instantiates : ModuleEntry → ℕ → Bool
instantiates m name = list_any (λ i. nat_eq name i.«module») m.instances

-- Rings.

-- the module of name `from` has an instance of the module of name `to`, or has one below, through at most so many modules between
abbrev pub reaches : List (ℕ × ModuleEntry) → ℕ → ℕ → ℕ → Bool
reaches modules from zero to = option_map_or (λ m. instantiates m to) (lookup (nat_eq from) modules) false
reaches modules from (suc between) to =
    reaches modules from between to || list_any (λ m. reaches modules from between m.0 && instantiates m.1 to) modules

-- a module is among its own instances, or theirs, and so on: between lie at most all modules
abbrev pub is_recursive : List (ℕ × ModuleEntry) → ℕ × ModuleEntry → Bool
is_recursive modules m = reaches modules m.0 (length modules) m.0

-- Tops.

-- no module has an instance of it
abbrev pub is_top : List (ℕ × ModuleEntry) → ℕ × ModuleEntry → Bool
is_top modules m = not (list_any (λ other. instantiates other.1 m.0) modules)

abbrev pub tops_of : List (ℕ × ModuleEntry) → List (ℕ × ModuleEntry)
tops_of modules = filter (is_top modules) modules

-- the design is the first one that no module has an instance of
abbrev pub top_of : List (ℕ × ModuleEntry) → Option (ℕ × ModuleEntry)
top_of modules = find (is_top modules) modules

-- The third pass: the modules together.

-- a text without modules is refused on its first line
abbrev pub no_top : ReadFault
no_top = record { line = 1; kind = NoTop }

-- of several modules that no other has an instance of the second one is refused
abbrev pub tops_fault : List ℕ → List (ℕ × ModuleEntry) → Option ReadFault
tops_fault text [] = Some no_top
tops_fault text (top ∷ []) = None
tops_fault text (top ∷ second ∷ more) = Some (fault_at text second.1.start ManyTops)

abbrev pub third_pass : List ℕ → List (ℕ × ModuleEntry) → Option ReadFault
third_pass text modules =
    option_map_or (λ m. Some (fault_at text m.1.start Recursive)) (find (is_recursive modules) modules) (tops_fault text (tops_of modules))
