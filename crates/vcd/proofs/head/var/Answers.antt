use Rattle.std.proofs.Common.{ℕ, List, ◌++◌}
use Rattle.std.specs.Prelude.{codes}
use Rattle.devices.specs.Outgoing.{Adds}
use Rattle.fourstate.specs.Keywords.{net_keyword}
use Rattle.vcd.specs.Codes.{code_of}
use Rattle.vcd.specs.Scopes.{reference_of}
use Rattle.vcd.proofs.Ways.{both}
use Rattle.vcd.proofs.head.var.Goals as goal

pub returns : goal.returns
returns g c =
    let t1 : List ℕ = codes "$var " ++ net_keyword c.args.net.now.kind in
    let t2 : List ℕ = t1 ++ codes " 1 " in
    let t3 : List ℕ = t2 ++ code_of c.args.n in
    let t4 : List ℕ = t3 ++ codes " " in
    let t5 : List ℕ = t4 ++ reference_of c.args.net.now.name in
    let a1 : Adds c.args.writer.now c.kind.new.writer t1 = both c.args.writer.now c.text.new.self c.kind.new.writer (codes "$var ") (net_keyword c.args.net.now.kind) c.text.ensures.adds c.kind.ensures in
    let a2 : Adds c.args.writer.now c.text-2.new.self t2 = both c.args.writer.now c.kind.new.writer c.text-2.new.self t1 (codes " 1 ") a1 c.text-2.ensures.adds in
    let a3 : Adds c.args.writer.now c.code.new.writer t3 = both c.args.writer.now c.text-2.new.self c.code.new.writer t2 (code_of c.args.n) a2 c.code.ensures in
    let a4 : Adds c.args.writer.now c.text-3.new.self t4 = both c.args.writer.now c.code.new.writer c.text-3.new.self t3 (codes " ") a3 c.text-3.ensures.adds in
    let a5 : Adds c.args.writer.now c.name.new.writer t5 = both c.args.writer.now c.text-3.new.self c.name.new.writer t4 (reference_of c.args.net.now.name) a4 c.name.ensures in
    both c.args.writer.now c.name.new.writer c.text-4.new.self t5 (codes " $end\n") a5 c.text-4.ensures.adds
