-- The first i lines have their masks, and every node's masks are those of its lines below i.
use Rattle.std.proofs.Common.{ℕ, ◌+◌, ◌<◌, ◌≤◌, ◌≡◌, refl, ◌∙◌, true, List, get_or, set, arith}
use native.Mathlib.Numerals.{add-one}
use borrow.Author.Count.{below_more}
use lib.ListN.{length-set, get_or-replicate}
use lib.Dec.{eqb}
use lib.Seq.{get_or-set_same, get_or-set_other}
use Rattle.card.specs.Format.{node_count, line_count, line_node, line_byte}
use Rattle.card.specs.Fault.{Sound}
use Rattle.card.proofs.CardChecked.{sound_front}
use Rattle.card.proofs.SoundNodes.{clause_lower, line_here, sound_line_node}
use Rattle.entries.specs.Inner.Masks.{with_line, wider}
use Rattle.entries.proofs.MasksAreTwins.{Chained, chained_none, chained_more, mask_of, mask_word, mask_waits}
use Rattle.entries.proofs.waits.Goals as goal

-- the node of a line of a sound card
node_low : {bs : List ℕ} → Sound bs → (i : ℕ) → i < line_count bs → line_node bs i < 512
node_low {bs} s i h =
    let f = sound_front bs s in
    let l = clause_lower bs (node_count bs) (line_node bs i) (sound_line_node s i h) in omega (arith, l, f.few)

-- line i, by its node and its must/may byte as read
module _ {bs last all musts : List ℕ} {i : ℕ} (c : Chained bs last all musts i) (s : Sound bs) (h : i < line_count bs) (node b : ℕ)
    (n : node ≡ line_node bs i) (m : b ≡ line_byte bs i) where
  one_mask : (r : ℕ) → r ≡ wider (eqb b 1) (get_or musts (get_or last node 0) 0) (get_or all (get_or last node 0) 0) → r ≡ mask_of bs i
  unfolding mask_of
  one_mask r p =
      let g = node_low s i h in
      p ∙ rw (n, m, c.must (line_node bs i) g, c.alls (line_node bs i) g) refl

  one_more : (r q : ℕ) → r ≡ with_line true (get_or all (get_or last node 0) 0) i
      → q ≡ with_line (eqb b 1) (get_or musts (get_or last node 0) 0) i
      → Chained bs (set last node (i + 1)) (set all (i + 1) r) (set musts (i + 1) q) (i + 1)
  one_more r q x y =
      let f = sound_front bs s in rw (x, y, n, m, add-one i) (chained_more c (omega (arith, h, f.lines)) (node_low s i h))

-- a line's number is below 64, its node below 512, and the place of the masks of its node below 65
few : {bs : List ℕ} → Sound bs → {i : ℕ} → i < line_count bs → i < 64
few {bs} s h = omega (arith, h, (sound_front bs s).lines)

small : {bs : List ℕ} → Sound bs → {i n : ℕ} → i < line_count bs → n ≡ line_node bs i → n < 512
small s {i} h e = omega (arith, node_low s i h, e)

place : {bs last all musts : List ℕ} {i n : ℕ} → Chained bs last all musts i → Sound bs → i < line_count bs → n ≡ line_node bs i
    → get_or last n 0 < 65
place {n = n} c s h e = omega (arith, few s h, c.low n (small s h e))

pub byte-i-end-requires : goal.byte-i-end-requires
byte-i-end-requires c = omega (arith, (sound_front c.args.card.now c.requires).whole)

pub loop-i-init : goal.loop-i-init
loop-i-init c = record {
  chained = chained_none _ _ _ _ refl refl refl (λ n h. get_or-replicate 512 n 0 0 h) refl refl;
  room = refl;
  masked = λ k h. absurd (omega arith);
}

pub line_node-node-requires : goal.line_node-node-requires
line_node-node-requires c = line_here c.requires c.loop-i.i (omega (arith, c.byte-i-end.ensures.0))

pub line_byte-must-requires : goal.line_byte-must-requires
line_byte-must-requires c = line_here c.requires c.loop-i.i (omega (arith, c.byte-i-end.ensures.0))

pub bounds-last-node : goal.bounds-last-node
bounds-last-node c = small c.requires {i = c.loop-i.i} (omega (arith, c.byte-i-end.ensures.0)) c.line_node-node.ensures.0

pub bounds-all-k : goal.bounds-all-k
bounds-all-k c =
    place c.loop-i.invariant.chained c.requires (omega (arith, c.byte-i-end.ensures.0)) c.line_node-node.ensures.0

pub bounds-musts-k : goal.bounds-musts-k
bounds-musts-k c =
    place c.loop-i.invariant.chained c.requires (omega (arith, c.byte-i-end.ensures.0)) c.line_node-node.ensures.0

pub bounds-masks-i : goal.bounds-masks-i
bounds-masks-i c = few c.requires (omega (arith, c.byte-i-end.ensures.0))

pub with_line-requires : goal.with_line-requires
with_line-requires c = few c.requires (omega (arith, c.byte-i-end.ensures.0))

pub bounds-all-i : goal.bounds-all-i
bounds-all-i c = omega (arith, few c.requires {i = c.loop-i.i} (omega (arith, c.byte-i-end.ensures.0)))

pub with_line-requires-in-loop-i : goal.with_line-requires-in-loop-i
with_line-requires-in-loop-i c = few c.requires (omega (arith, c.byte-i-end.ensures.0))

pub bounds-musts-i : goal.bounds-musts-i
bounds-musts-i c = omega (arith, few c.requires {i = c.loop-i.i} (omega (arith, c.byte-i-end.ensures.0)))

pub bounds-last-node-in-loop-i : goal.bounds-last-node-in-loop-i
bounds-last-node-in-loop-i c = small c.requires {i = c.loop-i.i} (omega (arith, c.byte-i-end.ensures.0)) c.line_node-node.ensures.0

pub loop-i-preserved : goal.loop-i-preserved
loop-i-preserved c =
    let bs = c.args.card.now in
    let i = c.loop-i.i in
    let h : i < line_count bs = omega (arith, c.byte-i-end.ensures.0) in
    let n = c.line_node-node.ensures.0 in
    let m = c.line_byte-must.ensures.0 in
    let v = c.wider_lines in
    let chained = c.loop-i.invariant.chained in
    let l = c.loop-i.masks in
    let P : ℕ → Type 0 = λ k. get_or (set l i v.result) k 0 ≡ mask_of bs k in
    record {
      chained = one_more chained c.requires h _ _ n m _ _ c.with_line.ensures c.with_line-in-loop-i.ensures;
      room = length-set l i v.result ∙ c.loop-i.invariant.room;
      masked = below_more P i (λ k g. get_or-set_other l i k v.result 0 (λ p. omega (arith, g, p)) ∙ c.loop-i.invariant.masked k g)
          (get_or-set_same l i v.result 0 (omega (arith, few c.requires h)) ∙ one_mask chained c.requires h _ _ n m _ v.ensures);
    }

pub returns : goal.returns
returns c =
    let bs = c.args.card.now in
    let all : line_count bs ≤ c.loop-i.i = omega (arith, c.byte-i-end.ensures.0) in
    let is = c.loop-i.invariant.masked in
    record {
      room = c.loop-i.invariant.room;
      words = λ i h. rw (is i (omega (arith, h, all))) (mask_word c.requires i h);
      bits = λ i h x. rw (is i (omega (arith, h, all))) (mask_waits c.requires i h x);
    }
