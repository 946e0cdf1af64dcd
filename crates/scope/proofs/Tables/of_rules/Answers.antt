-- The first i rules are entered.
use Rattle.std.proofs.Common.{◌≡◌, refl, ap, ◌∙◌, false, List, [], ◌∷◌, ◌++◌, add-one, arith, rules}
use Rattle.std.proofs.lemmas.Bool.{false≢true}
use Rattle.calculus.specs.Derivation.{Entry, Scope, extend}
use Rattle.card.specs.Format.{rule_count, rule_node, listing}
use Rattle.card.specs.Decode.{rule_entry}
use Rattle.card.proofs.CardChecked.{sound_front}
use Rattle.card.proofs.SoundNodes.{rule_here, sound_rule_node}
use Rattle.scope.specs.Inner.Tables.{table_scope}
use Rattle.scope.proofs.TablesAreScopes.{scope_more, entered_none, entered_more}
use Rattle.scope.proofs.Tables.of_rules.Goals as goal

pub byte-i-end-requires : goal.byte-i-end-requires
byte-i-end-requires c = let f = sound_front c.args.card.now c.requires in search rules

pub loop-i-init : goal.loop-i-init
unfolding table_scope listing
loop-i-init c = record { entered = entered_none refl refl; entries = refl }

pub rule_node-requires : goal.rule_node-requires
rule_node-requires c = rule_here c.requires c.loop-i.i (omega (arith, c.byte-i-end.ensures.0))

pub put-requires : goal.put-requires
put-requires c = (omega (arith, c.byte-i-end.ensures.1), c.rule_node.ensures.1)

pub loop-i-preserved : goal.loop-i-preserved
unfolding extend listing rule_entry
loop-i-preserved c =
    let bs = c.args.card.now in
    let turn = c.loop-i in
    let i = turn.i in
    let t = turn.invariant.entered in
    let here = c.byte-i-end.ensures in
    rw (c.put.ensures, c.rule_node.ensures.0, add-one i) (record {
      entered =
          entered_more (rule_node bs i) false t (omega (arith, here.1)) (sound_rule_node c.requires i (omega (arith, here.0)))
          (λ q. absurd (false≢true q));
      entries =
          ap (λ (x : Scope). x.entries)
          (scope_more bs turn.tables.nodes turn.tables.linear i (rule_node bs i) false (omega (arith, here.1, t.node_room))
          (omega (arith, here.1, t.linear_room)))
          ∙ ap (λ (l : List Entry). l ++ (rule_entry bs i ∷ [])) turn.invariant.entries;
    })

pub returns : goal.returns
returns c =
    let e : c.loop-i.i ≡ rule_count c.args.card.now = omega (arith, c.byte-i-end.ensures.0) in
    let v = rw e at c.loop-i.invariant in
    record { entered = v.entered; entries = v.entries }
