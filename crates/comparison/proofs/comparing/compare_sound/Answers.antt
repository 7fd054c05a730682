use Rattle.std.proofs.Common.{arith}
use Rattle.comparison.proofs.Tellings.{top_small, top_entries, told_apart}
use Rattle.comparison.proofs.comparing.compare_sound.Goals as goal

pub write_tree-requires : goal.write_tree-requires
write_tree-requires g c =
    let f = c.in-Some.ensures in
    record {
      few = top_small g.W.Kind.weights g.W.Kind.stands c.args.tables.now.first c.args.tables.now.second c.find_witness.new.work c.in-Some.top f;
      room = omega (arith, f.below, f.few, c.requires.list_room);
      entries = top_entries g.W.Kind.weights g.W.Kind.stands c.args.tables.now.first c.args.tables.now.second c.find_witness.new.work c.in-Some.top f;
    }

pub returns-in-Some : goal.returns-in-Some
returns-in-Some g c =
    told_apart g.W.Kind.weights g.W.Kind.stands c.args.tables.now.first c.args.tables.now.second c.find_witness.new.work c.in-Some.top c.in-Some.ensures c.args.list.now c.write_tree.new.list c.write_tree.result c.write_tree.ensures.written
