use Rattle.std.proofs.Common.{refl}
use Rattle.comparison.proofs.Sounds.{sound_more, sound_fails, sound_all}
use Rattle.comparison.proofs.soundness.is_sound.Goals as goal

pub returns-then-not-is_next : goal.returns-then-not-is_next
returns-then-not-is_next g c =
    sound_fails g.W.Kind.stands c.args.table.now.shape.now c.args.table.now.rules.now c.loop-i.i c.loop-i.i refl c.rule-item.result c.loop-i-test.true c.rule-item.is c.is_next.result c.is_next.ensures c.if-not-is_next.true

pub loop-i-preserved : goal.loop-i-preserved
loop-i-preserved g c =
    sound_more g.W.Kind.stands c.args.table.now.shape.now c.args.table.now.rules.now c.loop-i.i c.loop-i.i refl c.rule-item.result c.loop-i-test.true c.rule-item.is c.loop-i.invariant (c.is_next.ensures.0 c.if-not-is_next.false)

pub returns : goal.returns
returns g c = sound_all g.W.Kind.stands c.args.table.now.shape.now c.args.table.now.rules.now c.loop-i.i c.loop-i-test.false c.loop-i.invariant
