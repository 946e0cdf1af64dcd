-- The rules and the first i lines are entered.
use Rattle.std.proofs.Common.{suc, ◌+◌, ◌<◌, ◌≡◌, sym, ◌∙◌, arith}
use mathlib.Core.List.{append-nil}
use native.Mathlib.Nat.{add-zero}
use native.Mathlib.Numerals.{add-one}
use Rattle.card.specs.Format.{rule_count, line_count, rule_node, line_node, listing}
use Rattle.card.proofs.CardChecked.{sound_front}
use Rattle.card.proofs.SoundNodes.{line_here, sound_line_node}
use Rattle.entries.proofs.TablesAreScopes.{listed_more, job_scope, entered_more}
use Rattle.entries.proofs.enter.Goals as goal

pub byte-rules-requires : goal.byte-rules-requires
byte-rules-requires c = omega (arith, (sound_front c.args.card.now c.requires).whole)

pub byte-i-end-requires : goal.byte-i-end-requires
byte-i-end-requires c = omega (arith, (sound_front c.args.card.now c.requires).whole)

pub loop-i-init : goal.loop-i-init
unfolding listing
loop-i-init c =
    let bs = c.args.card.now in
    let o = c.enter_rules.ensures in
    let p = c.byte-rules in
    rw (add-zero p.result, p.ensures.0)
    (record { entered = o.entered; listed = o.listed ∙ sym (append-nil (listing (rule_count bs) (rule_node bs))) })

pub line_node-requires : goal.line_node-requires
line_node-requires c = line_here c.requires c.loop-i.i (omega (arith, c.byte-i-end.ensures.0))

pub put-requires-clause-a_clause : goal.put-requires-clause-a_clause
put-requires-clause-a_clause c =
    rw c.line_node.ensures.0 (sound_line_node c.requires c.loop-i.i (omega (arith, c.byte-i-end.ensures.0)))

pub put-requires-clause-e_bound : goal.put-requires-clause-e_bound
put-requires-clause-e_bound c =
    let f = sound_front c.args.card.now c.requires in
    omega (arith, f.lines, f.rules, c.byte-i-end.ensures.0, c.byte-rules.ensures.0)

pub loop-i-preserved : goal.loop-i-preserved
loop-i-preserved c =
    let bs = c.args.card.now in
    let p = c.byte-rules.result in
    let i = c.loop-i.i in
    let t = c.loop-i.invariant.entered in
    let f = sound_front bs c.requires in
    let low : i < line_count bs = omega (arith, c.byte-i-end.ensures.0) in
    let room : p + i < 256 = omega (arith, f.lines, f.rules, c.byte-rules.ensures.0) in
    let n : p + (i + 1) ≡ suc (p + i) = omega arith in
    rw (c.put.ensures.nodes_after, c.put.ensures.headed.written, c.line_node.ensures.0, n, add-one i) (record {
      entered = entered_more (line_node bs i) t room (sound_line_node c.requires i low)
          (rw c.line_node.ensures.0 at c.put.ensures.headed.is_head);
      listed = listed_more (listing p (rule_node bs)) (line_node bs) c.loop-i.nodes (p + i) i (omega (arith, t.node_room))
          c.loop-i.invariant.listed;
    })

pub returns : goal.returns
returns c =
    let bs = c.args.card.now in
    let e : c.loop-i.i ≡ line_count bs = omega (arith, c.byte-i-end.ensures.0) in
    let entered = rw (c.byte-rules.ensures.0, e) at c.loop-i.invariant.entered in
    let listed = rw (c.byte-rules.ensures.0, e) at c.loop-i.invariant.listed in
    record { entered = entered; scope = job_scope bs c.loop-i.nodes listed }
