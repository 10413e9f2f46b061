-- The nets among the inputs of a gate that change, input by input.
use Rattle.std.proofs.Common.{◌≡◌, ◌<◌, ◌+◌, ℕ, zero, suc, ◌++◌, List, [], ◌∷◌, All, get_or, length, map, take, Option, Some, None, IsSome, Bool, true, false, cond, refl, ap, arith, subst, sym, ◌∙◌, add-one, append-nil}
use Rattle.std.proofs.Math.Seq.{take-suc}
use Rattle.std.specs.List.{AllByRecursion, cons_option, filter, filter_map, flat_map, list_any}
use Rattle.std.specs.Option.{option_map_or}
use Rattle.std.proofs.lemmas.List.{map-append}
use Rattle.std.proofs.lemmas.List.Concat.{flat_map-append}
use Rattle.std.proofs.lemmas.List.Elements.{filter-append, filter_map-append, recursion_from_All}
use Rattle.design.specs.declared.terminal.Terminal.{Terminal}
use Rattle.design.specs.declared.terminal.Terminal.TheVariants.{Net, Constant}
use Rattle.design.specs.Connections.{Connection, to_net, to_constant}
use Rattle.design.specs.Keys.{Keyed, connection_in, name_of, netlist}
use Rattle.design.specs.kept.Keys.{IsThere, is_among, net_by_key}
use Rattle.design.specs.Netlist.{NetEntry, is_at_net, net_named}
use Rattle.causes.specs.CauseLines.{net_words}
use Rattle.causes.specs.Causes.{changed_among, changes_at, names_read}
use Rattle.causes.specs.kept.KeyedLines.{changed_words, input_words}
use Rattle.causes.proofs.NameLemmas.{ArePlaced, at_nets, read_constant, read_more}

module _ (d : Keyed) (u : ℕ) where
  -- the words of the nets of these names that change
  abbrev words_of : List (List ℕ) → List ℕ
  words_of names = flat_map (net_words (netlist d) u) (filter (λ n. changes_at (netlist d) n u) (filter_map (net_named (netlist d)) names))

  -- those of the nets that inputs read
  abbrev pub words_read : List Terminal → List ℕ
  words_read inputs = flat_map (net_words (netlist d) u) (changed_among (netlist d) u (map (connection_in d.nets) inputs))

  words_append : (names others : List (List ℕ)) → words_of (names ++ others) ≡ words_of names ++ words_of others
  words_append names others =
      ap (λ ns. flat_map (net_words (netlist d) u) (filter (λ n. changes_at (netlist d) n u) ns)) (filter_map-append (net_named (netlist d)) names others)
      ∙ ap (flat_map (net_words (netlist d) u)) (filter-append (λ n. changes_at (netlist d) n u) (filter_map (net_named (netlist d)) names) (filter_map (net_named (netlist d)) others))
      ∙ flat_map-append (net_words (netlist d) u) _ _

  one_net : (found : Option NetEntry)
      → flat_map (net_words (netlist d) u) (filter (λ n. changes_at (netlist d) n u) (cons_option found [])) ≡ option_map_or (λ n. cond (changes_at (netlist d) n u) (net_words (netlist d) u n) []) found []
  one_net None = refl
  one_net (Some n) =
      elim (changes_at (netlist d) n u) as (λ b. flat_map (net_words (netlist d) u) (cond b (n ∷ []) []) ≡ cond b (net_words (netlist d) u n) []) [
        | true ↦ append-nil (net_words (netlist d) u n)
        | false ↦ refl
      ]

  one_name : (key : ℕ) (known : Bool) → net_named (netlist d) (name_of d.nets key) ≡ net_by_key d key
      → words_of (cond known [] (name_of d.nets key ∷ [])) ≡ cond known [] (changed_words d u key)
  one_name key true named = refl
  one_name key false named =
      ap (λ found. flat_map (net_words (netlist d) u) (filter (λ n. changes_at (netlist d) n u) (cons_option found []))) named ∙ one_net (net_by_key d key)

  -- one input more
  pub one_more : (earlier : List Terminal) (input : Terminal) → ArePlaced d.nets → ((key : ℕ) → net_named (netlist d) (name_of d.nets key) ≡ net_by_key d key)
      → AllByRecursion (IsThere d.nets) earlier → IsThere d.nets input
      → words_read (earlier ++ input ∷ []) ≡ words_read earlier ++ input_words d u earlier input
  one_more earlier (Constant v) placed named each there =
      ap (λ inputs. words_of (names_read inputs)) (map-append (connection_in d.nets) earlier (Constant v ∷ []))
      ∙ ap words_of (read_constant (map (connection_in d.nets) earlier) v)
      ∙ sym (append-nil (words_read earlier))
  one_more earlier (Net key) placed named each there =
      let inputs : List Connection = map (connection_in d.nets) earlier in
      let among : list_any (is_at_net (name_of d.nets key)) inputs ≡ is_among earlier key = at_nets d.nets key earlier placed there each in
      ap (λ inputs. words_of (names_read inputs)) (map-append (connection_in d.nets) earlier (Net key ∷ []))
      ∙ ap words_of (read_more inputs (name_of d.nets key))
      ∙ words_append (names_read inputs) (cond (list_any (is_at_net (name_of d.nets key)) inputs) [] (name_of d.nets key ∷ []))
      ∙ ap (λ known. words_read earlier ++ words_of (cond known [] (name_of d.nets key ∷ []))) among
      ∙ ap (λ ws. words_read earlier ++ ws) (one_name key (is_among earlier key) (named key))

  all_first : (i : ℕ) (inputs : List Terminal) → AllByRecursion (IsThere d.nets) inputs → AllByRecursion (IsThere d.nets) (take i inputs)
  all_first zero inputs each = tt
  all_first (suc i) [] each = tt
  all_first (suc i) (x ∷ xs) each = (each.0, all_first i xs each.1)

  input_at : (i : ℕ) (inputs : List Terminal) (x : Terminal) → x ≡ get_or inputs i x → i < length inputs → AllByRecursion (IsThere d.nets) inputs → IsThere d.nets x
  input_at i [] x at low each = absurd (omega arith)
  input_at zero (y ∷ ys) x at low each = subst (IsThere d.nets) (sym at) each.0
  input_at (suc i) (y ∷ ys) x at low each = input_at i ys x at (omega arith) each.1

  -- the words with those of the input at a place
  pub next_input : (inputs : List Terminal) (i : ℕ) (x : Terminal) → ArePlaced d.nets → ((key : ℕ) → net_named (netlist d) (name_of d.nets key) ≡ net_by_key d key)
      → All (IsThere d.nets) inputs → i < length inputs → x ≡ get_or inputs i x
      → words_read (take (i + 1) inputs) ≡ words_read (take i inputs) ++ input_words d u (take i inputs) x
  next_input inputs i x placed named all low at =
      let each = recursion_from_All (IsThere d.nets) inputs all in
      let more : take (i + 1) inputs ≡ take i inputs ++ x ∷ [] = rw add-one (take-suc inputs i x low ∙ ap (λ (y : Terminal). take i inputs ++ y ∷ []) (sym at)) in
      ap words_read more ∙ one_more (take i inputs) x placed named (all_first i inputs each) (input_at i inputs x at low each)
