use Rattle.comparison.specs.Scanning.{runs_of, entry_of}
use Rattle.comparison.proofs.Scans.{quiet_first, quiet_second, clear_first, clear_second, clear_past}
use Rattle.comparison.proofs.scan.Scan.scan_at.Goals as goal

pub scan-requires-clause-quiet : goal.scan-requires-clause-quiet
scan-requires-clause-quiet g c =
    quiet_first g.W.Kind.weights g.W.Kind.stands c.args.self.now.live (runs_of g.W.Kind.stands c.args.self.now) (entry_of c.args.self.now) c.args.cursor.now.first c.args.cursor.now.second c.in-Some.rule.now c.in-Some.ensures.lookup.1 c.args.cursor.now.since c.in-Some.ensures.lookup.3.0 c.requires.quiet

pub returns-in-Some-clause-clear : goal.returns-in-Some-clause-clear
returns-in-Some-clause-clear g c e =
    clear_first g.W.Kind.weights g.W.Kind.stands c.args.self.now.live (runs_of g.W.Kind.stands c.args.self.now) (entry_of c.args.self.now) c.args.cursor.now.first c.args.cursor.now.second c.in-Some.rule.now c.in-Some.ensures.lookup.1 c.in-Some.ensures.lookup.3.0 (c.scan.ensures.clear e)

pub returns-in_err-rule-clause-clear : goal.returns-in_err-rule-clause-clear
returns-in_err-rule-clause-clear g c e =
    clear_past g.W.Kind.weights g.W.Kind.stands c.args.self.now.live (runs_of g.W.Kind.stands c.args.self.now) (entry_of c.args.self.now) c.args.cursor.now.first c.args.cursor.now.second c.in_default.ensures.lookup.3 c.in_err-rule.ensures.lookup.3

pub scan-requires-2-clause-quiet : goal.scan-requires-2-clause-quiet
scan-requires-2-clause-quiet g c =
    quiet_second g.W.Kind.weights g.W.Kind.stands c.args.self.now.live (runs_of g.W.Kind.stands c.args.self.now) (entry_of c.args.self.now) c.args.cursor.now.first c.args.cursor.now.second c.in_ok-rule.rule.now c.in_ok-rule.ensures.lookup.1 c.args.cursor.now.since c.requires.same c.in_ok-rule.ensures.lookup.3.0 c.requires.quiet

pub returns-clause-clear : goal.returns-clause-clear
returns-clause-clear g c e =
    clear_second g.W.Kind.weights g.W.Kind.stands c.args.self.now.live (runs_of g.W.Kind.stands c.args.self.now) (entry_of c.args.self.now) c.args.cursor.now.first c.args.cursor.now.second c.in_ok-rule.rule.now c.in_ok-rule.ensures.lookup.1 c.requires.same c.in_default.ensures.lookup.3 c.in_ok-rule.ensures.lookup.3.0 (c.scan-2.ensures.clear e)
