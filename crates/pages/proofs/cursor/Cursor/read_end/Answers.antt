use Rattle.pages.proofs.Starts.{end_some}
use Rattle.pages.proofs.cursor.Cursor.read_end.Goals as goal

pub returns-then-self : goal.returns-then-self
returns-then-self c = end_some c.args.self.now.page.now c.args.self.now c.if-self.true
