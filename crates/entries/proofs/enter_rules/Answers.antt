-- The first i rules are entered.
use Rattle.std.proofs.Common.{◌<◌, [], refl, arith, rules}
use native.Mathlib.Numerals.{add-one}
use Rattle.card.specs.Format.{rule_count, rule_node, listing}
use Rattle.card.proofs.CardChecked.{sound_front}
use Rattle.card.proofs.SoundNodes.{rule_here, sound_rule_node}
use Rattle.entries.proofs.TablesAreScopes.{listed_more, entered_none, entered_more}
use Rattle.entries.proofs.enter_rules.Goals as goal

pub byte-i-end-requires : goal.byte-i-end-requires
byte-i-end-requires c = omega (arith, (sound_front c.args.card.now c.requires).whole)

pub loop-i-init : goal.loop-i-init
unfolding listing
loop-i-init c = record { entered = entered_none (search rules) (search rules); listed = refl }

pub rule_node-requires : goal.rule_node-requires
rule_node-requires c = rule_here c.requires c.loop-i.i (omega (arith, c.byte-i-end.ensures.0))

pub put-requires-clause-a_clause : goal.put-requires-clause-a_clause
put-requires-clause-a_clause c =
    rw c.rule_node.ensures.0 (sound_rule_node c.requires c.loop-i.i (omega (arith, c.byte-i-end.ensures.0)))

pub loop-i-preserved : goal.loop-i-preserved
loop-i-preserved c =
    let bs = c.args.card.now in
    let i = c.loop-i.i in
    let t = c.loop-i.invariant.entered in
    let low : i < rule_count bs = omega (arith, c.byte-i-end.ensures.0) in
    let room : i < 256 = omega (arith, c.byte-i-end.ensures.1) in
    rw (c.put.ensures.nodes_after, c.put.ensures.headed.written, c.rule_node.ensures.0, add-one i) (record {
      entered = entered_more (rule_node bs i) t room (sound_rule_node c.requires i low)
          (rw c.rule_node.ensures.0 at c.put.ensures.headed.is_head);
      listed = listed_more [] (rule_node bs) c.loop-i.nodes i i (omega (arith, t.node_room)) c.loop-i.invariant.listed;
    })
