-- What is read of instances of modules is sound.
use Rattle.std.proofs.Common.{◌≡◌, ◌≢◌, ℕ, true, false, List, [], Option, None, MatchOption, true≢false, ap, sym, ◌∙◌}
use Rattle.std.proofs.lemmas.List.Elements.{All-nil, All-push, All-weaker}
use Rattle.std.proofs.lemmas.List.Quantifiers.{all_pairs_push}
use Rattle.vtext.specs.declared.cause.Cause.{Cause}
use Rattle.vtext.specs.declared.gate.Terminal.{Terminal}
use Rattle.vtext.specs.declared.module_instance.PortConnection.{PortConnection}
use Rattle.vtext.specs.declared.net.Net as nets
use Rattle.vtext.specs.Causes.{when}
use Rattle.vtext.specs.GateNames.{is_taken, with_taken}
use Rattle.vtext.specs.Modules.{InstanceEntry}
use Rattle.vtext.specs.Nets.{with_net}
use Rattle.vtext.specs.Notes.{add_connection, instantiated}
use Rattle.vtext.specs.Readings.{Reading}
use Rattle.vtext.specs.kept.Sound.{IsGoodNumber, IsJoinable, IsPortConnected, IsSoundInstance}
use Rattle.vtext.proofs.NetEnds.{said_kept}
use Rattle.vtext.proofs.NetReadings.{IsSaid}
use Rattle.vtext.proofs.SoundGateLemmas.{connections_still}
use Rattle.vtext.proofs.SoundReadings.{free_number}
use Rattle.vtext.proofs.SoundStates.{IsBegun, IsJoined, IsSoFar}
use Rattle.vtext.proofs.TakenLemmas.{taken_itself}

module _ (names : List (List ℕ)) (room : ℕ) (r : Reading) where
  -- an instance gets a name that is free
  pub begun : (n : ℕ) (why : Cause) → IsSoFar names room r → IsGoodNumber names n → when (is_taken r.taken n) why ≡ None
      → IsBegun names r.nets r.instances (with_taken r.taken n) n []
  begun n why s good none =
      let free : is_taken r.taken n ≡ false = free_number names (is_taken r.taken n) why none in
      record {
        good = good;
        taken_now = taken_itself r.taken n;
        apart =
            All-weaker (λ (i : InstanceEntry). is_taken r.taken i.name ≡ true) (λ (i : InstanceEntry). i.name ≢ n)
            (λ i taken same. true≢false (sym taken ∙ ap (is_taken r.taken) same ∙ free)) r.instances s.instances_taken;
        connected = All-nil (IsPortConnected r.nets);
      }

  -- A port is connected.

  abbrev joins : Option Terminal → PortConnection
  joins terminal = record { port = r.port; terminal = terminal }

  -- a port is connected to what may be joined, or to nothing
  pub place_joined : (terminal : Option Terminal) → MatchOption terminal (Unit {0}) (IsJoinable r.nets) → IsJoined names r → IsJoined names (add_connection r terminal)
  place_joined terminal joinable h = (
    h.0,
    record {
      good = h.1.good;
      taken_now = h.1.taken_now;
      apart = h.1.apart;
      connected = All-push (IsPortConnected r.nets) r.connections (joins terminal) h.1.connected joinable;
    },
  )

  -- the connections stay joined where more is said of a net
  pub net_joined : (n : ℕ) (net : nets.Net) → IsSoFar names room r → IsSaid names r.nets n net → IsJoined names r → IsJoined names (record r { nets = with_net r.nets n net })
  net_joined n net s said h =
      let later : List (ℕ × nets.Net) = with_net r.nets n net in (
        h.0,
        record {
          good = h.1.good;
          taken_now = h.1.taken_now;
          apart = h.1.apart;
          connected = connections_still r.nets later (said_kept names r.nets n net s.sound_nets said) r.connections h.1.connected;
        },
      )

  -- an instance is complete
  pub instance_sound : IsSoFar names room r → IsJoined names r → IsSoFar names room (instantiated r)
  instance_sound s h =
      let i : InstanceEntry = record { start = r.instance_start; name = r.instance_name; «module» = r.of; connections = r.connections } in
      record {
        finished = s.finished;
        sound_nets = s.sound_nets;
        fitting = s.fitting;
        instantiated =
            All-push (IsSoundInstance names r.nets) r.instances i s.instantiated (record { name = h.1.good; connections = h.1.connected });
        instances_apart = all_pairs_push (λ (a b : InstanceEntry). a.name ≢ b.name) r.instances i s.instances_apart h.1.apart;
        instances_taken = All-push (λ (j : InstanceEntry). is_taken r.taken j.name ≡ true) r.instances i s.instances_taken h.1.taken_now;
        names_apart = s.names_apart;
      }
