use Rattle.crn_sign.proofs.Prelude.{◌≡◌, ◌<◌, ◌+◌, ◌*◌, ◌/◌, ◌%◌, ℕ, inl, inr, length, set, sym, ap, ap₂, ◌∙◌, arith, bit_at, length-set, get_or-set_same, get_or-set_other, kind_at, any_default, eq_or, Bits, weakened, word_of, mark_in, none, word_at, kind_of_mark, kind_there}
use Rattle.crn_sign.proofs.kinds.KeptKinds.put_word.Goals as goal

pub put_kinds-requires : goal.put_kinds-requires
put_kinds-requires c =
    let w = c.args.w in
    let kept = c.requires.kept in
    let asked = c.args.self.now.asked.items in
    let weak = c.args.self.now.weak.items in
    let was : c.index.result.now ≡ word_at asked w = c.index.ensures ∙ any_default c.index.result.now none asked w (omega (arith, c.requires.word, kept.words)) in
    let weak_was : c.index-2.result.now ≡ word_of weak w = c.index-2.ensures ∙ any_default c.index-2.result.now 0 weak w (omega (arith, c.requires.word, kept.weak_words)) in
    record {
      word = omega (arith, c.requires.word, c.cols.ensures, c.rows.ensures);
      kept = λ i lt inside. (
          let here : (64 * w + i) / 64 ≡ w = omega (arith, lt) in
          let place : (64 * w + i) % 64 ≡ i = omega (arith, lt) in
          kept.are (64 * w + i) (omega (arith, inside, kept.long))
          ∙ ap₂ (λ (v j : ℕ). weakened (kind_of_mark (mark_in (word_at asked v) j)) (bit_at (word_of weak v) j)) here place
          ∙ ap₂ (λ (b : Bits) (x : ℕ). weakened (kind_of_mark (mark_in b i)) (bit_at x i)) (sym was) (sym weak_was)
          );
    }

pub returns-clause-kept : goal.returns-clause-kept
returns-clause-kept c =
    let w = c.args.w in
    let kept = c.requires.kept in
    let asked = c.args.self.now.asked.items in
    let weak = c.args.self.now.weak.items in
    let put = c.put_kinds.ensures in
    let new = c.put_kinds.new.kinds.items in
    let inside : w < length asked = omega (arith, c.requires.word, kept.words) in
    let weak_inside : w < length weak = omega (arith, c.requires.word, kept.weak_words) in
    record {
      long = put.count ∙ kept.long;
      words = length-set asked w c.args.bits ∙ kept.words;
      weak_words = length-set weak w c.args.weak ∙ kept.weak_words;
      are = λ k lt. elim (eq_or (k / 64) w) as (λ _. kind_at new k ≡ kind_there (set weak w c.args.weak) (set asked w c.args.bits) k) [
        | inl e ↦
            let at : 64 * w + k % 64 ≡ k = omega (arith, e) in
            ap (λ (x : ℕ). kind_at new x) (sym at) ∙ put.here (k % 64) (omega arith) (omega (arith, at, lt, kept.long))
            ∙ ap₂ (λ (b : Bits) (x : ℕ). weakened (kind_of_mark (mark_in b (k % 64))) (bit_at x (k % 64)))
            (sym (ap (word_at (set asked w c.args.bits)) e ∙ get_or-set_same asked w c.args.bits none inside))
            (sym (ap (word_of (set weak w c.args.weak)) e ∙ get_or-set_same weak w c.args.weak 0 weak_inside))
        | inr ne ↦ put.others k ne ∙ kept.are k lt
            ∙ ap₂ (λ (b : Bits) (x : ℕ). weakened (kind_of_mark (mark_in b (k % 64))) (bit_at x (k % 64)))
            (sym (get_or-set_other asked w (k / 64) c.args.bits none ne)) (sym (get_or-set_other weak w (k / 64) c.args.weak 0 ne))
      ];
    }
