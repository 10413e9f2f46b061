use Rattle.std.proofs.Common.{◌≡◌, ◌<◌, ◌≤◌, ◌∙◌, ap, suc, ℕ, List, true, false, inl, arith}
use Rattle.event_queue.specs.kept.Noted.{noted}
use Rattle.design.specs.Keys.{netlist}
use Rattle.rundiff.specs.kept.Fronts.{live_in}
use Rattle.rundiff.specs.kept.Inputs.{IsSameInput}
use Rattle.rundiff.specs.kept.Places.{is_among}
use Rattle.rundiff.proofs.Leaps.{leap_agrees, leap_along, leap_free, leap_idle, leap_noted, leap_trace, leap_wave, off_on}
use Rattle.rundiff.proofs.front.Front.leap.Goals as goal

pub returns-clause-front : goal.returns-clause-front
returns-clause-front g c =
    let answer = g.S.Stepper.answer in
    let old = netlist c.args.former.now.old.now in let new = netlist c.args.former.now.new.now in
    let front = c.args.self.now in let n = front.done in let u = c.all_same_until-until.result in
    let before = c.requires.front in
    let free = c.is_empty.ensures.none c.if-not-is_empty.false in
    let order : n < u = c.if-until-self.false in
    let within : u ≤ suc old.horizon = let a = c.all_same_until-until.ensures.until in let b = c.requires.within in omega arith in
    let live = live_in front in
    let among : (p : ℕ) → is_among c.as_slice.result.now p ≡ live p = λ p. ap (λ (l : List ℕ). is_among l p) c.as_slice.ensures.value ∙ c.in_ok-places.ensures.all p in
    let among_too : (p : ℕ) → is_among c.as_slice-2.result.now p ≡ live p = λ p. ap (λ (l : List ℕ). is_among l p) c.as_slice-2.ensures.value ∙ c.in_ok-places.ensures.all p in
    let inputs : (p : ℕ) → live p ≡ true → IsSameInput old new p n u = λ p on. c.all_same_until-until.ensures.same order p (among p ∙ on) in
    let is_old = c.lawful.ensures.design in let is = c.lawful-2.ensures.design in
    let done = c.in_ok-leave_all.ensures in
    let waves = c.leave_all.new.waves in
    let left = λ (p : ℕ) (on : live p ≡ true). done.free p (among_too p ∙ on) in
    let others = λ (p : ℕ) (off : live p ≡ false). done.others p (among_too p ∙ off) in
    record {
      live = record {
        drivers = before.live.drivers;
        base = before.live.base;
        fixed_live = before.live.fixed_live;
        closed = before.live.closed;
        agrees = leap_agrees answer old new is_old is front n u before free order within inputs;
        waves = leap_wave answer old new is_old is front n u before free order within inputs waves left others done.made;
        wave_ends = λ p patch at. let h = done.ends p patch at in omega arith;
        kept_waves = λ p on. inl (leap_along answer old new is_old is front n u before free order within inputs waves left others done.made p on);
        other_waves = λ p off. leap_free answer old new is_old is front n u before free order within inputs waves left others done.made p;
      };
      traces = leap_trace answer old new is_old is front n u before free order within inputs;
      trace_ends = λ p patch at. let h = before.trace_ends p patch at in omega arith;
      own_traces = λ p on. off_on _ (free p) on;
      other_traces = before.other_traces;
      awaits =
          leap_noted answer old new is_old is front n u before free order within inputs (noted c.new.result) (noted c.new-2.result) (noted c.in_ok-nets.nets)
          c.new.ensures c.new-2.ensures c.in_ok-nets.ensures.noted c.in_ok-nets.ensures.early;
    }

pub returns-clause-idle : goal.returns-clause-idle
returns-clause-idle g c =
    let answer = g.S.Stepper.answer in
    let old = netlist c.args.former.now.old.now in let new = netlist c.args.former.now.new.now in
    let front = c.args.self.now in let n = front.done in let u = c.all_same_until-until.result in
    let free = c.is_empty.ensures.none c.if-not-is_empty.false in
    let order : n < u = c.if-until-self.false in
    let within : u ≤ suc old.horizon = let a = c.all_same_until-until.ensures.until in let b = c.requires.within in omega arith in
    let inputs : (p : ℕ) → live_in front p ≡ true → IsSameInput old new p n u = λ p on.
    c.all_same_until-until.ensures.same order p (ap (λ (l : List ℕ). is_among l p) c.as_slice.ensures.value ∙ c.in_ok-places.ensures.all p ∙ on) in
    leap_idle answer old new c.lawful.ensures.design c.lawful-2.ensures.design front n u c.requires.front free order within inputs
