use Rattle.liveness.specs.Living.{lead_of}
use Rattle.std.proofs.Common.{ℕ, ◌<◌, get_or, sym, ap, ◌∙◌, subst}
use Rattle.comparison.proofs.OneSide.{table_stands, table_below, table_rule, table_over}
use Rattle.comparison.proofs.Climbs.{climbing_none, climbing_rule, climbing_room, climbing_place, climbing_good, climbing_more, climbing_all}
use Rattle.comparison.proofs.climbing.climb_from.Goals as goal

pub loop-table-init : goal.loop-table-init
loop-table-init g c = climbing_none g.W.Kind.weights g.W.Kind.stands c.args.tables.now.first c.args.tables.now.second c.args.side c.args.survey.now.reach c.args.survey.now.life c.args.survey.now.access c.args.work.now c.args.len c.args.entry c.args.state c.requires.0 c.requires.1.0 c.requires.1.1

pub rule_at-rule-requires : goal.rule_at-rule-requires
rule_at-rule-requires g c =
    table_below c.args.tables.now.first c.args.tables.now.second c.args.side c.on-table.result c.on-table.ensures c.lead-lead.result.rule (lead_of c.args.survey.now.life c.loop-table.at).rule (ap (λ l. l.rule) c.lead-lead.ensures) (climbing_rule g.W.Kind.weights g.W.Kind.stands c.args.tables.now.first c.args.tables.now.second c.args.side c.args.survey.now.reach c.args.survey.now.life c.args.survey.now.access c.args.work.now c.args.len c.args.entry c.args.state c.requires.0 c.requires.1.0 c.loop-table.work c.loop-table.end c.loop-table.top c.loop-table.at c.loop-table.invariant (ap (λ A. A.accepting c.loop-table.at) (table_stands c.args.tables.now.first c.args.tables.now.second c.args.side c.on-table.result c.on-table.ensures g.W.Kind.stands) ∙ sym c.loop-table-test.ensures))

pub with_child-node-requires : goal.with_child-node-requires
with_child-node-requires g c =
    subst (λ (j : ℕ). j < 4) (sym (ap (λ l. l.place) c.lead-lead.ensures))
    (climbing_place g.W.Kind.weights g.W.Kind.stands c.args.tables.now.first c.args.tables.now.second c.args.side c.args.survey.now.reach c.args.survey.now.life c.args.survey.now.access c.args.work.now c.args.len c.args.entry c.args.state c.requires.0 c.requires.1.0 c.loop-table.work c.loop-table.end c.loop-table.top c.loop-table.at c.loop-table.invariant (ap (λ A. A.accepting c.loop-table.at) (table_stands c.args.tables.now.first c.args.tables.now.second c.args.side c.on-table.result c.on-table.ensures g.W.Kind.stands) ∙ sym c.loop-table-test.ensures) c.rule_at-rule.result (table_rule c.args.tables.now.first c.args.tables.now.second c.args.side c.on-table.result c.on-table.ensures c.lead-lead.result.rule (lead_of c.args.survey.now.life c.loop-table.at).rule (ap (λ l. l.rule) c.lead-lead.ensures) c.rule_at-rule.result c.rule_at-rule.ensures))

pub plant-requires : goal.plant-requires
plant-requires g c = (
  climbing_room g.W.Kind.weights g.W.Kind.stands c.args.tables.now.first c.args.tables.now.second c.args.side c.args.survey.now.reach c.args.survey.now.life c.args.survey.now.access c.args.work.now c.args.len c.args.entry c.args.state c.requires.0 c.requires.1.0 c.loop-table.work c.loop-table.end c.loop-table.top c.loop-table.at c.loop-table.invariant (ap (λ A. A.accepting c.loop-table.at) (table_stands c.args.tables.now.first c.args.tables.now.second c.args.side c.on-table.result c.on-table.ensures g.W.Kind.stands) ∙ sym c.loop-table-test.ensures) c.loop-table.auto.work,
  climbing_good g.W.Kind.weights g.W.Kind.stands c.args.tables.now.first c.args.tables.now.second c.args.side c.args.survey.now.reach c.args.survey.now.life c.args.survey.now.access c.args.work.now c.args.len c.args.entry c.args.state c.requires.0 c.requires.1.0 c.loop-table.work c.loop-table.end c.loop-table.top c.loop-table.at c.loop-table.invariant (ap (λ A. A.accepting c.loop-table.at) (table_stands c.args.tables.now.first c.args.tables.now.second c.args.side c.on-table.result c.on-table.ensures g.W.Kind.stands) ∙ sym c.loop-table-test.ensures) c.rule_at-rule.result (table_rule c.args.tables.now.first c.args.tables.now.second c.args.side c.on-table.result c.on-table.ensures c.lead-lead.result.rule (lead_of c.args.survey.now.life c.loop-table.at).rule (ap (λ l. l.rule) c.lead-lead.ensures) c.rule_at-rule.result c.rule_at-rule.ensures) c.node_over-row.result (table_over c.args.tables.now.first c.args.tables.now.second c.args.side c.on-table.result c.on-table.ensures c.requires.0.alphabet (λ q. get_or c.args.survey.now.access.entry q 0) c.rule_at-rule.result.left c.node_over-row.result c.node_over-row.ensures) c.lead-lead.result.place (ap (λ l. l.place) c.lead-lead.ensures) c.with_child-node.result c.with_child-node.ensures,
)

pub loop-table-preserved : goal.loop-table-preserved
loop-table-preserved g c =
    climbing_more g.W.Kind.weights g.W.Kind.stands c.args.tables.now.first c.args.tables.now.second c.args.side c.args.survey.now.reach c.args.survey.now.life c.args.survey.now.access c.args.work.now c.args.len c.args.entry c.args.state c.requires.0 c.requires.1.0 c.loop-table.work c.loop-table.end c.loop-table.top c.loop-table.at c.loop-table.invariant (ap (λ A. A.accepting c.loop-table.at) (table_stands c.args.tables.now.first c.args.tables.now.second c.args.side c.on-table.result c.on-table.ensures g.W.Kind.stands) ∙ sym c.loop-table-test.ensures) c.rule_at-rule.result (table_rule c.args.tables.now.first c.args.tables.now.second c.args.side c.on-table.result c.on-table.ensures c.lead-lead.result.rule (lead_of c.args.survey.now.life c.loop-table.at).rule (ap (λ l. l.rule) c.lead-lead.ensures) c.rule_at-rule.result c.rule_at-rule.ensures) c.node_over-row.result (table_over c.args.tables.now.first c.args.tables.now.second c.args.side c.on-table.result c.on-table.ensures c.requires.0.alphabet (λ q. get_or c.args.survey.now.access.entry q 0) c.rule_at-rule.result.left c.node_over-row.result c.node_over-row.ensures) c.lead-lead.result.place (ap (λ l. l.place) c.lead-lead.ensures) c.with_child-node.result c.with_child-node.ensures c.plant.new.work (c.plant.ensures.grown c.requires.0.alphabet c.loop-table.invariant.forest) c.plant.ensures.nodes c.plant.ensures.before c.from-at.result c.from-at.ensures

pub returns : goal.returns
returns g c =
    climbing_all g.W.Kind.weights g.W.Kind.stands c.args.tables.now.first c.args.tables.now.second c.args.side c.args.survey.now.reach c.args.survey.now.life c.args.survey.now.access c.args.work.now c.args.len c.args.entry c.args.state c.requires.0 c.requires.1.0 c.loop-table.work c.loop-table.end c.loop-table.top c.loop-table.at (ap (λ A. A.accepting c.loop-table.at) (table_stands c.args.tables.now.first c.args.tables.now.second c.args.side c.on-table.result c.on-table.ensures g.W.Kind.stands) ∙ sym c.loop-table-test.ensures) c.loop-table.invariant
