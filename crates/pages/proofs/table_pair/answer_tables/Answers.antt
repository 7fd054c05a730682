use Rattle.std.proofs.Common.{length, Ok, Err, ◌∙◌}
use Rattle.tables.specs.Images.{draft_holds, closed_holds}
use Rattle.pages.specs.declared.trouble.Trouble.TheVariants.{Fault as refused}
use Rattle.pages.specs.Reading.{AnswersTables}
use Rattle.pages.proofs.Calls.{thrown}
use Rattle.pages.proofs.TwoTables.{measures_on, fills_on, ends_on, tabled, first_measure_fails, first_fill_fails, second_measure_fails, second_fill_fails, end_fails, judged}
use Rattle.pages.proofs.table_pair.answer_tables.Goals as goal

pub returns-in_err-measure : goal.returns-in_err-measure
returns-in_err-measure g c =
    let page = c.args.cursor.now.page.now in
    let x = c.in_err-measure.field-0.0 in
    thrown (AnswersTables g.W.Kind.weights page c.args.cursor.now) c.from_residual-in_err-measure.result x c.from_residual-in_err-measure.ensures.1
    (first_measure_fails g.W.Kind.weights page c.args.cursor.now c.read_measure.new.cursor x c.requires c.in_err-measure.ensures.read)

pub returns-in_err-fill_table : goal.returns-in_err-fill_table
returns-in_err-fill_table g c =
    let page = c.args.cursor.now.page.now in
    let room_1 = c.deref_mut.ensures.len ∙ c.in_ok-first.ensures.len in
    let p1 = c.read_measure.ensures.page in
    let x = c.in_err-fill_table.field-0.0 in
    thrown (AnswersTables g.W.Kind.weights page c.args.cursor.now) c.from_residual-in_err-fill_table.result x c.from_residual-in_err-fill_table.ensures.1
    (first_fill_fails g.W.Kind.weights page c.args.cursor.now c.read_measure.new.cursor c.fill_table.new.cursor c.in_ok-measure.measure (draft_holds g.W.Kind.stands c.open-draft.result) (draft_holds g.W.Kind.stands c.fill_table.new.draft) (length c.deref_mut.result.now) x c.requires c.in_ok-measure.ensures.read room_1 c.open-draft.ensures (fills_on g.W.Kind.weights _ page c.read_measure.new.cursor c.fill_table.new.cursor (draft_holds g.W.Kind.stands c.open-draft.result) (draft_holds g.W.Kind.stands c.fill_table.new.draft) (Err c.in_err-fill_table.field-0.0) p1 c.in_err-fill_table.ensures.filled))

pub returns-in_err-measure-2 : goal.returns-in_err-measure-2
returns-in_err-measure-2 g c =
    let page = c.args.cursor.now.page.now in
    let room_1 = c.deref_mut.ensures.len ∙ c.in_ok-first.ensures.len in
    let p1 = c.read_measure.ensures.page in
    let p2 = c.fill_table.ensures.page ∙ p1 in
    let x = c.in_err-measure-2.field-0.0 in
    let first = tabled g.W.Kind.weights page c.args.cursor.now c.read_measure.new.cursor c.fill_table.new.cursor c.in_ok-measure.measure (draft_holds g.W.Kind.stands c.open-draft.result) (draft_holds g.W.Kind.stands c.fill_table.new.draft) (closed_holds g.W.Kind.stands c.close-first.result) (length c.deref_mut.result.now) c.in_ok-measure.ensures.read room_1 c.open-draft.ensures (fills_on g.W.Kind.weights _ page c.read_measure.new.cursor c.fill_table.new.cursor (draft_holds g.W.Kind.stands c.open-draft.result) (draft_holds g.W.Kind.stands c.fill_table.new.draft) (Ok tt) p1 c.in_ok-fill_table.ensures.filled) c.close-first.ensures in
    thrown (AnswersTables g.W.Kind.weights page c.args.cursor.now) c.from_residual-in_err-measure-2.result x c.from_residual-in_err-measure-2.ensures.1
    (second_measure_fails g.W.Kind.weights page c.args.cursor.now c.fill_table.new.cursor (closed_holds g.W.Kind.stands c.close-first.result) c.requires first c.read_measure-2.new.cursor x (measures_on _ page c.fill_table.new.cursor c.read_measure-2.new.cursor (Err c.in_err-measure-2.field-0.0) p2 c.in_err-measure-2.ensures.read))

pub returns-in_err-fill_table-2 : goal.returns-in_err-fill_table-2
returns-in_err-fill_table-2 g c =
    let page = c.args.cursor.now.page.now in
    let room_1 = c.deref_mut.ensures.len ∙ c.in_ok-first.ensures.len in
    let room_2 = c.deref_mut-2.ensures.len ∙ c.in_ok-second.ensures.len in
    let p1 = c.read_measure.ensures.page in
    let p2 = c.fill_table.ensures.page ∙ p1 in
    let p3 = c.read_measure-2.ensures.page ∙ p2 in
    let x = c.in_err-fill_table-2.field-0.0 in
    let first = tabled g.W.Kind.weights page c.args.cursor.now c.read_measure.new.cursor c.fill_table.new.cursor c.in_ok-measure.measure (draft_holds g.W.Kind.stands c.open-draft.result) (draft_holds g.W.Kind.stands c.fill_table.new.draft) (closed_holds g.W.Kind.stands c.close-first.result) (length c.deref_mut.result.now) c.in_ok-measure.ensures.read room_1 c.open-draft.ensures (fills_on g.W.Kind.weights _ page c.read_measure.new.cursor c.fill_table.new.cursor (draft_holds g.W.Kind.stands c.open-draft.result) (draft_holds g.W.Kind.stands c.fill_table.new.draft) (Ok tt) p1 c.in_ok-fill_table.ensures.filled) c.close-first.ensures in
    thrown (AnswersTables g.W.Kind.weights page c.args.cursor.now) c.from_residual-in_err-fill_table-2.result x c.from_residual-in_err-fill_table-2.ensures.1
    (second_fill_fails g.W.Kind.weights page c.args.cursor.now c.fill_table.new.cursor (closed_holds g.W.Kind.stands c.close-first.result) c.requires first c.read_measure-2.new.cursor c.fill_table-2.new.cursor c.in_ok-measure-2.measure (draft_holds g.W.Kind.stands c.open-draft-2.result) (draft_holds g.W.Kind.stands c.fill_table-2.new.draft) (length c.deref_mut-2.result.now) x (measures_on _ page c.fill_table.new.cursor c.read_measure-2.new.cursor (Ok c.in_ok-measure-2.measure) p2 c.in_ok-measure-2.ensures.read) room_2 c.open-draft-2.ensures (fills_on g.W.Kind.weights _ page c.read_measure-2.new.cursor c.fill_table-2.new.cursor (draft_holds g.W.Kind.stands c.open-draft-2.result) (draft_holds g.W.Kind.stands c.fill_table-2.new.draft) (Err c.in_err-fill_table-2.field-0.0) p3 c.in_err-fill_table-2.ensures.filled))

pub returns-in_err-read_end : goal.returns-in_err-read_end
returns-in_err-read_end g c =
    let page = c.args.cursor.now.page.now in
    let room_1 = c.deref_mut.ensures.len ∙ c.in_ok-first.ensures.len in
    let room_2 = c.deref_mut-2.ensures.len ∙ c.in_ok-second.ensures.len in
    let p1 = c.read_measure.ensures.page in
    let p2 = c.fill_table.ensures.page ∙ p1 in
    let p3 = c.read_measure-2.ensures.page ∙ p2 in
    let p4 = c.fill_table-2.ensures.page ∙ p3 in
    let f = c.in_err-read_end.field-0.0 in
    let first = tabled g.W.Kind.weights page c.args.cursor.now c.read_measure.new.cursor c.fill_table.new.cursor c.in_ok-measure.measure (draft_holds g.W.Kind.stands c.open-draft.result) (draft_holds g.W.Kind.stands c.fill_table.new.draft) (closed_holds g.W.Kind.stands c.close-first.result) (length c.deref_mut.result.now) c.in_ok-measure.ensures.read room_1 c.open-draft.ensures (fills_on g.W.Kind.weights _ page c.read_measure.new.cursor c.fill_table.new.cursor (draft_holds g.W.Kind.stands c.open-draft.result) (draft_holds g.W.Kind.stands c.fill_table.new.draft) (Ok tt) p1 c.in_ok-fill_table.ensures.filled) c.close-first.ensures in
    let second = tabled g.W.Kind.weights page c.fill_table.new.cursor c.read_measure-2.new.cursor c.fill_table-2.new.cursor c.in_ok-measure-2.measure (draft_holds g.W.Kind.stands c.open-draft-2.result) (draft_holds g.W.Kind.stands c.fill_table-2.new.draft) (closed_holds g.W.Kind.stands c.close-second.result) (length c.deref_mut-2.result.now) (measures_on _ page c.fill_table.new.cursor c.read_measure-2.new.cursor (Ok c.in_ok-measure-2.measure) p2 c.in_ok-measure-2.ensures.read) room_2 c.open-draft-2.ensures (fills_on g.W.Kind.weights _ page c.read_measure-2.new.cursor c.fill_table-2.new.cursor (draft_holds g.W.Kind.stands c.open-draft-2.result) (draft_holds g.W.Kind.stands c.fill_table-2.new.draft) (Ok tt) p3 c.in_ok-fill_table-2.ensures.filled) c.close-second.ensures in
    thrown (AnswersTables g.W.Kind.weights page c.args.cursor.now) c.from_residual-in_err-read_end.result (refused f) c.from_residual-in_err-read_end.ensures.1
    (end_fails g.W.Kind.weights page c.args.cursor.now c.fill_table.new.cursor (closed_holds g.W.Kind.stands c.close-first.result) c.requires first c.fill_table-2.new.cursor (closed_holds g.W.Kind.stands c.close-second.result) second f (ends_on _ page c.fill_table-2.new.cursor (Err c.in_err-read_end.field-0.0) p4 c.in_err-read_end.ensures))

pub returns : goal.returns
returns g c =
    let page = c.args.cursor.now.page.now in
    let room_1 = c.deref_mut.ensures.len ∙ c.in_ok-first.ensures.len in
    let room_2 = c.deref_mut-2.ensures.len ∙ c.in_ok-second.ensures.len in
    let p1 = c.read_measure.ensures.page in
    let p2 = c.fill_table.ensures.page ∙ p1 in
    let p3 = c.read_measure-2.ensures.page ∙ p2 in
    let p4 = c.fill_table-2.ensures.page ∙ p3 in
    let first = tabled g.W.Kind.weights page c.args.cursor.now c.read_measure.new.cursor c.fill_table.new.cursor c.in_ok-measure.measure (draft_holds g.W.Kind.stands c.open-draft.result) (draft_holds g.W.Kind.stands c.fill_table.new.draft) (closed_holds g.W.Kind.stands c.close-first.result) (length c.deref_mut.result.now) c.in_ok-measure.ensures.read room_1 c.open-draft.ensures (fills_on g.W.Kind.weights _ page c.read_measure.new.cursor c.fill_table.new.cursor (draft_holds g.W.Kind.stands c.open-draft.result) (draft_holds g.W.Kind.stands c.fill_table.new.draft) (Ok tt) p1 c.in_ok-fill_table.ensures.filled) c.close-first.ensures in
    let second = tabled g.W.Kind.weights page c.fill_table.new.cursor c.read_measure-2.new.cursor c.fill_table-2.new.cursor c.in_ok-measure-2.measure (draft_holds g.W.Kind.stands c.open-draft-2.result) (draft_holds g.W.Kind.stands c.fill_table-2.new.draft) (closed_holds g.W.Kind.stands c.close-second.result) (length c.deref_mut-2.result.now) (measures_on _ page c.fill_table.new.cursor c.read_measure-2.new.cursor (Ok c.in_ok-measure-2.measure) p2 c.in_ok-measure-2.ensures.read) room_2 c.open-draft-2.ensures (fills_on g.W.Kind.weights _ page c.read_measure-2.new.cursor c.fill_table-2.new.cursor (draft_holds g.W.Kind.stands c.open-draft-2.result) (draft_holds g.W.Kind.stands c.fill_table-2.new.draft) (Ok tt) p3 c.in_ok-fill_table-2.ensures.filled) c.close-second.ensures in
    judged g.W.Kind.weights page c.args.cursor.now c.fill_table.new.cursor (closed_holds g.W.Kind.stands c.close-first.result) c.requires first c.fill_table-2.new.cursor (closed_holds g.W.Kind.stands c.close-second.result) second c.judge.result (ends_on _ page c.fill_table-2.new.cursor (Ok tt) p4 c.in_ok-read_end.ensures) c.judge.ensures
