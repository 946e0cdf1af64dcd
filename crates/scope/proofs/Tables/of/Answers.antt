-- The rules and the first i lines are entered.
use Rattle.std.proofs.Common.{◌≡◌, suc, ◌<◌, ◌+◌, sym, ap, ◌∙◌, true, List, [], ◌∷◌, ◌++◌, append_assoc, add-one, arith, rules}
use mathlib.Core.List.{append-nil}
use native.Mathlib.Nat.{add-zero}
use Rattle.calculus.specs.Derivation.{Entry, Scope, extend}
use Rattle.card.specs.Format.{rule_count, line_count, line_node, listing}
use Rattle.card.specs.Decode.{rule_entry, line_entry}
use Rattle.card.proofs.CardChecked.{sound_front}
use Rattle.card.proofs.SoundNodes.{line_here, sound_line_node}
use Rattle.scope.proofs.TablesAreScopes.{scope_more, job_scope, entered_more}
use Rattle.scope.proofs.Tables.of.Goals as goal

pub byte-rules-requires : goal.byte-rules-requires
byte-rules-requires c = let f = sound_front c.args.card.now c.requires in search rules

pub byte-i-end-requires : goal.byte-i-end-requires
byte-i-end-requires c = let f = sound_front c.args.card.now c.requires in search rules

pub loop-i-init : goal.loop-i-init
unfolding listing
loop-i-init c =
    let bs = c.args.card.now in
    let o = c.of_rules-tables.ensures in
    let p = c.byte-rules in
    rw (add-zero p.result, p.ensures.0)
    (record { entered = o.entered; entries = o.entries ∙ sym (append-nil (listing (rule_count bs) (rule_entry bs))) })

pub line_node-requires : goal.line_node-requires
line_node-requires c = line_here c.requires c.loop-i.i (omega (arith, c.byte-i-end.ensures.0))

pub put-requires : goal.put-requires
put-requires c =
    let f = sound_front c.args.card.now c.requires in
    (omega (arith, c.byte-rules.ensures.0, c.byte-i-end.ensures.0, f.rules, f.lines), c.line_node.ensures.1)

pub loop-i-preserved : goal.loop-i-preserved
unfolding extend listing line_entry
loop-i-preserved c =
    let bs = c.args.card.now in
    let turn = c.loop-i in
    let p = c.byte-rules in
    let i = turn.i in
    let t = turn.invariant.entered in
    let f = sound_front bs c.requires in
    let here = c.byte-i-end.ensures.0 in
    let room : p.result + i < 256 = omega (arith, p.ensures.0, here, f.rules, f.lines) in
    let n : p.result + (i + 1) ≡ suc (p.result + i) = omega arith in
    rw (c.put.ensures, c.line_node.ensures.0, n, add-one i) (record {
      entered =
          entered_more (line_node bs i) true t room (sound_line_node c.requires i (omega (arith, here)))
          (λ q. omega (arith, p.ensures.0));
      entries =
          ap (λ (x : Scope). x.entries)
          (scope_more bs turn.tables.nodes turn.tables.linear (p.result + i) (line_node bs i) true
          (omega (arith, room, t.node_room)) (omega (arith, room, t.linear_room)))
          ∙ ap (λ (l : List Entry). l ++ (line_entry bs i ∷ [])) turn.invariant.entries
          ∙ append_assoc (listing p.result (rule_entry bs)) (listing i (line_entry bs)) (line_entry bs i ∷ []);
    })

pub returns : goal.returns
returns c =
    let bs = c.args.card.now in
    let e : c.loop-i.i ≡ line_count bs = omega (arith, c.byte-i-end.ensures.0) in
    let v = rw (c.byte-rules.ensures.0, e) at c.loop-i.invariant in
    record {
      entered = v.entered;
      scope = job_scope bs c.loop-i.tables.nodes c.loop-i.tables.linear (rule_count bs + line_count bs) v.entries;
    }
