use Rattle.std.proofs.Common.{arith}
use Rattle.std.proofs.Math.Nat.{one-le-pow}
use Rattle.rounds.proofs.form.Form.tuples.Goals as goal

pub returns : goal.returns
returns c = let some = one-le-pow c.args.self.now.rank c.args.self.now.classes c.args.self.now.some_classes in omega arith
