-- What more is read leaves what was read sound.
use Rattle.std.proofs.Common.{◌≡◌, ℕ, suc, Bool, true, false, List, [], ◌∷◌, ◌++◌, Option, Some, None, All, sym, subst, refl, length-append, arith}
use Rattle.std.proofs.lemmas.List.Elements.{All-append, All-nil, All-push, All-weaker}
use Rattle.std.specs.List.{list_any}
use Rattle.std.specs.Option.{option_map_or}
use Rattle.fourstate.specs.kept.Delays.{AreDelays}
use Rattle.vtext.specs.declared.cause.Cause.{Cause}
use Rattle.vtext.specs.declared.gate.InstanceName.TheVariants.{Written}
use Rattle.vtext.specs.declared.gate.Terminal.{Terminal}
use Rattle.vtext.specs.declared.net.Net.{Net}
use Rattle.vtext.specs.Causes.{completed_cause, when}
use Rattle.vtext.specs.GateNames.{is_name_taken, is_taken, with_taken}
use Rattle.vtext.specs.Instances.{completed, gates_of, inputs_of, instance_name, outputs_of}
use Rattle.vtext.specs.Modules.{GateEntry, InstanceEntry}
use Rattle.vtext.specs.Names.{name_at}
use Rattle.vtext.specs.Nets.{is_undirected, with_net}
use Rattle.vtext.specs.Notes.{finished, module_of}
use Rattle.vtext.specs.Readings.{Reading}
use Rattle.vtext.specs.kept.Sound.{IsGoodNumber, IsSingle, IsSoundGate, IsSoundInstance, IsSoundModule}
use Rattle.vtext.proofs.CompletedLemmas.{IsNamed, IsStarted, completed_holds, completed_keeps}
use Rattle.vtext.proofs.FreshLemmas.{IsSettled, fresh, settled_more}
use Rattle.vtext.proofs.InsertLemmas.{entries_kept, pairs_apart}
use Rattle.vtext.proofs.NetEnds.{AreKept, nets_apart, nets_sound, said_kept}
use Rattle.vtext.proofs.NetReadings.{IsSaid, nets_said, no_nets}
use Rattle.vtext.proofs.SoundGateLemmas.{IsGoodName, all_single_still, completed_sound, gates_still, instances_still}
use Rattle.vtext.proofs.TakenLemmas.{Keeps, taken_itself, taken_kept}
use Rattle.vtext.proofs.SoundStates.{AreSound, AreTaken, IsAmong, IsReady, IsSoFar, IsWithin}

module _ (names : List (List ℕ)) where
  taken_still : (taken later : List ℕ) → Keeps taken later → (is : List InstanceEntry) → AreTaken taken is → AreTaken later is
  taken_still taken later keeps is all =
      All-weaker (λ (i : InstanceEntry). is_taken taken i.name ≡ true) (λ (i : InstanceEntry). is_taken later i.name ≡ true) (λ i t. keeps i.name t) is all

  pub less : (room : ℕ) (r : Reading) → IsSoFar names (suc room) r → IsSoFar names room r
  less room r s = record {
    finished = s.finished;
    sound_nets = s.sound_nets;
    fitting = s.fitting;
    instantiated = s.instantiated;
    instances_apart = s.instances_apart;
    instances_taken = s.instances_taken;
    names_apart = record {
      apart = s.names_apart.apart;
      settled = s.names_apart.settled;
      few = omega (arith, s.names_apart.few);
      short = omega (arith, s.names_apart.short);
    };
  }

  -- Nets.

  pub nets_more : (room : ℕ) (r : Reading) (n : ℕ) (net : Net) → IsGoodNumber names n → IsSoFar names room r → IsSaid names r.nets n net
      → AreSound names room r.modules (with_net r.nets n net) r.gates r.instances r.taken r.unnamed r.terminals
  nets_more room r n net good s said =
      let kept : AreKept r.nets (with_net r.nets n net) = said_kept names r.nets n net s.sound_nets said in
      record {
        finished = s.finished;
        sound_nets = nets_said names r.nets n net good s.sound_nets said;
        fitting = gates_still names r.nets (with_net r.nets n net) kept r.gates s.fitting;
        instantiated = instances_still names r.nets (with_net r.nets n net) kept r.instances s.instantiated;
        instances_apart = s.instances_apart;
        instances_taken = s.instances_taken;
        names_apart = s.names_apart;
      }

  -- Modules.

  pub module_more : (room : ℕ) (r : Reading) → IsSoFar names room r → IsWithin names r → list_any (λ net. is_undirected net.1) r.nets ≡ false → IsSoFar names room (finished r)
  module_more room r s h ended =
      let sound : IsSoundModule names (r.name, module_of r) = record {
        name = h.0;
        nets = nets_sound names r.nets s.sound_nets ended;
        distinct_nets = pairs_apart r.nets s.sound_nets.distinct;
        apart_nets = nets_apart names r.nets s.sound_nets ended;
        gates = s.fitting;
        distinct_gates = s.names_apart.apart;
        instances = s.instantiated;
        distinct_instances = s.instances_apart;
      } in
      record {
        finished = entries_kept (IsSoundModule names) r.modules r.name (module_of r) sound s.finished;
        sound_nets = no_nets names;
        fitting = All-nil (IsSoundGate names []);
        instantiated = All-nil (IsSoundInstance names []);
        instances_apart = λ i j d low high. absurd (omega arith);
        instances_taken = All-nil (λ (i : InstanceEntry). is_taken [] i.name ≡ true);
        names_apart = record {
          apart = λ i j d low high. absurd (omega arith);
          settled = All-nil (IsSettled names [] 0);
          few = omega (arith, s.names_apart.few);
          short = s.names_apart.short;
        };
      }

  -- Names.

  pub free_number : (b : Bool) (why : Cause) → when b why ≡ None → b ≡ false
  free_number true why e = absurd cc
  free_number false why e = refl

  pub name_more : (room : ℕ) (r : Reading) (n : ℕ) → IsSoFar names room r → AreSound names room r.modules r.nets r.gates r.instances (with_taken r.taken n) r.unnamed r.terminals
  name_more room r n s = record {
    finished = s.finished;
    sound_nets = s.sound_nets;
    fitting = s.fitting;
    instantiated = s.instantiated;
    instances_apart = s.instances_apart;
    instances_taken = taken_still r.taken (with_taken r.taken n) (λ m t. taken_kept r.taken n m t) r.instances s.instances_taken;
    names_apart = record {
      apart = s.names_apart.apart;
      settled = settled_more names r.taken (with_taken r.taken n) r.unnamed r.unnamed r.gates (λ m t. taken_kept r.taken n m t) (omega arith) s.names_apart.settled;
      few = s.names_apart.few;
      short = s.names_apart.short;
    };
  }

  pub name_ready : (room : ℕ) (r : Reading) (n : ℕ) (why : Cause) → IsSoFar names (suc room) r → IsGoodNumber names n → when (is_taken r.taken n) why ≡ None
      → IsNamed names n r.gates (with_taken r.taken n)
  name_ready room r n why s good none =
      let free : is_taken r.taken n ≡ false = free_number (is_taken r.taken n) why none in
      let P : Option ℕ → Type 0 = λ found. option_map_or (is_taken r.taken) found false ≡ false in
      let unused : is_name_taken names r.taken (name_at names n) ≡ false = subst P (sym good.known) free in
      record {
        good = good;
        taken_now = taken_itself r.taken n;
        fresh = fresh names r.taken r.unnamed (Written n) r.gates (omega (arith, s.names_apart.few)) good unused s.names_apart.settled;
      }

  good_of : (name : Option ℕ) (gates : List GateEntry) (taken : List ℕ) → IsStarted names name gates taken → IsGoodName names name
  good_of None gates taken started = tt
  good_of (Some n) gates taken started = started.good

  -- Terminals.

  none_connected : (nets : List (ℕ × Net)) (ts : List Terminal) → ts ≡ [] → All (IsSingle nets) ts
  none_connected nets [] e = All-nil (IsSingle nets)
  none_connected nets (t ∷ ts) e = absurd cc

  pub opened : (r : Reading) → IsWithin names r → AreDelays r.delays → IsReady names r → IsAmong names r
  opened r h timed ready = (h.0, none_connected r.nets r.terminals h.1, timed, ready)

  pub terminal_more : (room : ℕ) (r : Reading) (t : Terminal) → IsSoFar names (suc room) r
      → AreSound names room r.modules r.nets r.gates r.instances r.taken r.unnamed (r.terminals ++ t ∷ [])
  terminal_more room r t s =
      let longer = length-append r.terminals (t ∷ []) in
      record {
        finished = s.finished;
        sound_nets = s.sound_nets;
        fitting = s.fitting;
        instantiated = s.instantiated;
        instances_apart = s.instances_apart;
        instances_taken = s.instances_taken;
        names_apart = record {
          apart = s.names_apart.apart;
          settled = s.names_apart.settled;
          few = omega (arith, s.names_apart.few);
          short = omega (arith, s.names_apart.short, longer);
        };
      }

  -- the terminals stay single where more is said of a net
  pub net_noted : (room : ℕ) (r : Reading) (n : ℕ) (net : Net) → IsSoFar names room r → IsSaid names r.nets n net → IsAmong names r → IsAmong names (record r { nets = with_net r.nets n net })
  net_noted room r n net s said h =
      (h.0, all_single_still r.nets (with_net r.nets n net) (said_kept names r.nets n net s.sound_nets said) r.terminals h.1, h.2, h.3)

  -- one more is single
  pub terminal_added : (r : Reading) (t : Terminal) → IsSingle r.nets t → IsAmong names r → IsAmong names (record r { terminals = r.terminals ++ t ∷ [] })
  terminal_added r t single h = (h.0, All-push (IsSingle r.nets) r.terminals t h.1 single, h.2, h.3)

  -- Instances.

  pub instance_more : (room : ℕ) (r : Reading) → completed_cause names r ≡ None → IsSoFar names (suc room) r → IsAmong names r → IsSoFar names room (completed names r)
  instance_more room r free s h =
      let more : List GateEntry = gates_of r (instance_name r) (inputs_of r.gate r.terminals) (outputs_of r.gate r.terminals) in
      record {
        finished = s.finished;
        sound_nets = s.sound_nets;
        fitting = All-append (IsSoundGate names r.nets) r.gates more s.fitting (completed_sound names r free (good_of r.instance r.gates r.taken h.3) h.2 h.1);
        instantiated = s.instantiated;
        instances_apart = s.instances_apart;
        instances_taken = taken_still r.taken (completed names r).taken (completed_keeps names r) r.instances s.instances_taken;
        names_apart = completed_holds names r room s.names_apart h.3 free;
      }
