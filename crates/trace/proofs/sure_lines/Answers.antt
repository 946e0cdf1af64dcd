-- Without an "either way" or a "rest" every line in the list is surely used. Else the list is walked, and is not refused.
use Rattle.std.proofs.Common.{◌≡◌, sym, ◌∙◌, ap, ℕ, arith}
use Rattle.std.proofs.Common.{List, Result, Ok, Err}
use Rattle.std.specs.Result.{result_unwrap_or}
use Rattle.calculus.specs.Job.{Listed}
use Rattle.card.specs.declared.faults.Refusal.{Refusal}
use Rattle.card.specs.Decode.{job_of}
use Rattle.scope.specs.Inner.Sets.{SureLines}
use lib.Seq.{length-take-le}
use borrow.Author.Tests.{lt-ltb}
use Rattle.card.proofs.CardChecked.{sound_front}
use Rattle.card.proofs.NodesDecoded.{listed_short}
use Rattle.card.proofs.SureByKinds.{lines_sure}
use Rattle.lines.specs.declared.LineWord.{LineWord}
use Rattle.lines.specs.Set.{full_s}
use Rattle.lines.specs.Inner.Word.{line_in, lines_of}
use Rattle.lines.proofs.MemberLaws.{member_full}
use Rattle.lines.proofs.LineLaws.{line_of}
use Rattle.trace.specs.Inner.Listing.{told_followed, Following, SurelyFollows}
use Rattle.trace.proofs.StepsMean.{listed_follows}
use Rattle.trace.proofs.sure_lines.Goals as goal

pub byte-requires : goal.byte-requires
byte-requires c = let f = sound_front _ c.requires.sound in omega (arith, f.whole)

pub full-requires : goal.full-requires
full-requires c = let f = sound_front _ c.requires.sound in omega (arith, f.lines, c.byte.ensures.0)

-- all T lines
pub returns-else-may_differ : goal.returns-else-may_differ
returns-else-may_differ c =
    let none = c.may_differ.ensures.0 c.if-may_differ.false in
    let f = sound_front _ c.requires.sound in
    let all = c.lines.ensures ∙ ap lines_of (c.full.ensures ∙ ap full_s c.byte.ensures.0) in
    record {
      lines = λ x i h t.
          ap (λ (w : LineWord). line_in w i) all ∙ line_of _ i (omega (arith, h, f.lines)) ∙ member_full _ i f.lines ∙ lt-ltb i _ h
          ∙ sym (lines_sure c.requires.sound x i h t none);
    }

pub steps_check-requires-clause-k_bound : goal.steps_check-requires-clause-k_bound
steps_check-requires-clause-k_bound c =
    let short = listed_short _ _ c.requires.listed in
    omega (arith, short, length-take-le c.args.k c.args.steps.now c.requires.k_in_bounds)

-- a derivation's list is not refused
sure_of : {bs l : List ℕ} (r : Result LineWord Refusal) (d : LineWord) → Listed (job_of bs) l → Following bs l (told_followed r)
    → SurelyFollows bs l r → SureLines bs l (result_unwrap_or r d)
unfolding told_followed SurelyFollows
sure_of (Ok s) d y f h = h
sure_of {bs} {l} (Err e) d y f h =
    let q = listed_follows bs l y f in let z : ◌≡◌ {A = ℕ} 0 1 = cc q in absurd (omega arith)

pub returns-then-may_differ : goal.returns-then-may_differ
returns-then-may_differ c =
    let e = c.steps_check.ensures in
    rw c.unwrap_or.ensures (sure_of c.steps_check.result c.empty.result c.requires.listed e.following e.surely_follows)
