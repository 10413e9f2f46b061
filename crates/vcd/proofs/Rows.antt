-- The definition at texts that were written by hand.
use Rattle.std.proofs.Common.{◌≡◌, ℕ, false, refl, List, [], ◌∷◌}
use Rattle.std.specs.Prelude.{codes}
use Rattle.std.specs.Fmt.{digits}
use Rattle.fourstate.specs.declared.net.NetKind.TheVariants.{Wire}
use Rattle.fourstate.specs.declared.unit.Magnitude.TheVariants.{One}
use Rattle.fourstate.specs.declared.unit.Unit.TheVariants.{Nanosecond}
use Rattle.fourstate.specs.declared.value.Value.{Value}
use Rattle.fourstate.specs.declared.value.Value.TheVariants as value
use Rattle.design.specs.Netlist.{NetEntry, Netlist}
use Rattle.vcd.specs.Changes.{lines_below}
use Rattle.vcd.specs.Codes.{code_of}
use Rattle.vcd.specs.Head.{head_lines}
use Rattle.vcd.specs.Scopes.{scopes_of, reference_of}

code_0 : code_of 0 ≡ codes "!"
unfolding code_of
code_0 = refl

code_93 : code_of 93 ≡ codes "~"
unfolding code_of
code_93 = refl

code_94 : code_of 94 ≡ codes "!!"
unfolding code_of
code_94 = refl

code_95 : code_of 95 ≡ codes "\"!"
unfolding code_of
code_95 = refl

-- the last code of two bytes, and the first of three
code_8929 : code_of 8929 ≡ codes "~~"
unfolding code_of
code_8929 = refl

code_8930 : code_of 8930 ≡ codes "!!!"
unfolding code_of
code_8930 = refl

wire : List ℕ → NetEntry
wire name = record { name = name; kind = Wire; is_input = false; points = [] }

netlist_of : List ℕ → List NetEntry → ℕ → Netlist
netlist_of top nets horizon =
    record { top = top; unit = record { magnitude = One; unit = Nanosecond }; nets = nets; gates = []; horizon = horizon }

-- a buffer of delay 3 and its input, up to 100
waves : List (List (ℕ × Value))
waves =
    ((0, value.Zero) ∷ (10, value.One) ∷ (13, value.Zero) ∷ []) ∷
    ((0, value.Unknown) ∷ (3, value.Zero) ∷ (13, value.One) ∷ (16, value.Zero) ∷ []) ∷ []

head_of_buffer : head_lines (netlist_of (codes "m") (wire (codes "a") ∷ wire (codes "y") ∷ []) 100) ≡
    codes "$version gatebench $end\n$timescale 1 ns $end\n$scope module m $end\n$var wire 1 ! a $end\n$var wire 1 \" y $end\n$upscope $end\n$enddefinitions $end\n"
unfolding code_of scopes_of reference_of netlist_of wire
head_of_buffer = refl

moments_of_buffer : lines_below waves 100 101 ≡
    codes "#0\n$dumpvars\n0!\nx\"\n$end\n#3\n0\"\n#10\n1!\n#13\n0!\n1\"\n#16\n0\"\n#100\n"
unfolding code_of waves digits
moments_of_buffer = refl

-- cut at 10, where a net changes
moments_to_10 : lines_below (((0, value.Zero) ∷ (10, value.One) ∷ []) ∷ ((0, value.Unknown) ∷ (3, value.Zero) ∷ []) ∷ []) 10 11 ≡
    codes "#0\n$dumpvars\n0!\nx\"\n$end\n#3\n0\"\n#10\n1!\n"
unfolding code_of digits
moments_to_10 = refl

-- nothing at all
head_of_nothing : head_lines (netlist_of (codes "m") [] 0) ≡
    codes "$version gatebench $end\n$timescale 1 ns $end\n$scope module m $end\n$upscope $end\n$enddefinitions $end\n"
unfolding code_of scopes_of reference_of netlist_of
head_of_nothing = refl

moments_of_nothing : lines_below [] 0 1 ≡ codes "#0\n$dumpvars\n$end\n"
unfolding digits
moments_of_nothing = refl

-- a module with an instance u, which has a net t
head_of_instance : head_lines (netlist_of (codes "m") (wire (codes "a") ∷ wire (codes "y") ∷ wire (codes "u.t") ∷ []) 5) ≡
    codes "$version gatebench $end\n$timescale 1 ns $end\n$scope module m $end\n$var wire 1 ! a $end\n$var wire 1 \" y $end\n$scope module u $end\n$var wire 1 # t $end\n$upscope $end\n$upscope $end\n$enddefinitions $end\n"
unfolding code_of scopes_of reference_of netlist_of wire
head_of_instance = refl

-- a scope that is opened again, and one inside it
head_of_scopes : head_lines (netlist_of (codes "m") (wire (codes "u.a") ∷ wire (codes "b") ∷ wire (codes "u.v.c") ∷ wire (codes "u.d") ∷ []) 0) ≡
    codes "$version gatebench $end\n$timescale 1 ns $end\n$scope module m $end\n$scope module u $end\n$var wire 1 ! a $end\n$upscope $end\n$var wire 1 \" b $end\n$scope module u $end\n$scope module v $end\n$var wire 1 # c $end\n$upscope $end\n$var wire 1 $ d $end\n$upscope $end\n$upscope $end\n$enddefinitions $end\n"
unfolding code_of scopes_of reference_of netlist_of wire
head_of_scopes = refl
