use Rattle.crn_sign.proofs.Prelude.{◌≡◌, ◌<◌, ◌/◌, ◌%◌, ℕ, List, inl, inr, length, set, sym, ap, ap₂, ◌∙◌, arith, bit_at, fill_by_all, get_or-set_same, get_or-set_other, Free, width, kind_at, eq_or, Bits, weakened, word_of, mark_in, none, word_at, kind_of_mark, kind_there}
use Rattle.crn_sign.proofs.MarkLaws.{kinds_by}
use Rattle.crn_sign.proofs.kinds.KeptKinds.ask.Goals as goal

pub put_word-requires-clause-word : goal.put_word-requires-clause-word
put_word-requires-clause-word c = omega (arith, c.loop-w-test.true, c.requires.long)

pub loop-w-preserved : goal.loop-w-preserved
loop-w-preserved c =
    let w = c.loop-w.w in
    let kept = c.loop-w.invariant.kept in
    let asked = c.loop-w.self.asked.items in
    let weak = c.loop-w.self.weak.items in
    let bits = word_at c.args.asked.now w in
    let word = c.word_of.result in
    let inside : w < length asked = omega (arith, c.loop-w-test.true, c.requires.long, kept.words) in
    let weak_inside : w < length weak = omega (arith, c.loop-w-test.true, c.requires.long, kept.weak_words) in
    record {
      kept = c.put_word.ensures.kept;
      asked = λ v lt. ap (λ (l : List Bits). word_at l v) c.put_word.ensures.asked ∙ elim (eq_or v w) as (λ _. word_at (set asked w bits) v ≡ word_at c.args.asked.now v) [
        | inl e ↦ ap (word_at (set asked w bits)) e ∙ get_or-set_same asked w bits none inside ∙ ap (word_at c.args.asked.now) (sym e)
        | inr ne ↦ get_or-set_other asked w v bits none ne ∙ c.loop-w.invariant.asked v (omega (arith, lt, ne))
      ];
      weak = λ v lt. ap (λ (l : List ℕ). word_of l v) c.put_word.ensures.weak ∙ elim (eq_or v w) as (λ _. word_of (set weak w word) v ≡ word_of c.args.weak.now v) [
        | inl e ↦ ap (word_of (set weak w word)) e ∙ get_or-set_same weak w word 0 weak_inside ∙ c.word_of.ensures ∙ ap (word_of c.args.weak.now) (sym e)
        | inr ne ↦ get_or-set_other weak w v word 0 ne ∙ c.loop-w.invariant.weak v (omega (arith, lt, ne))
      ];
    }

pub returns : goal.returns
returns c =
    let a = c.args.matrix.now in
    let now = c.loop-w.invariant in
    let all : (k : ℕ) → k < width a → kind_at c.loop-w.self.kinds.items k ≡ kind_there c.args.weak.now c.args.asked.now k =
    λ k lt. now.kept.are k lt ∙ ap₂ (λ (b : Bits) (x : ℕ). weakened (kind_of_mark (mark_in b (k % 64))) (bit_at x (k % 64)))
    (now.asked (k / 64) (omega (arith, lt, c.loop-w-test.false, c.requires.long))) (now.weak (k / 64) (omega (arith, lt, c.loop-w-test.false, c.requires.long))) in
    record {
      kept = now.kept;
      kinds = fill_by_all (kind_there c.args.weak.now c.args.asked.now) c.loop-w.self.kinds.items (width a) Free now.kept.long all ∙ kinds_by a c.args.weak.now c.args.asked.now;
    }
