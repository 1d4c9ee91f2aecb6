use Rattle.crn_sign.proofs.Prelude.{◌≡◌, ◌<◌, ◌*◌, ◌/◌, ◌%◌, ℕ, inl, inr, length, refl, set, sym, ap, ap₂, ◌∙◌, arith, bit_at, length-set, get_or-set_same, get_or-set_other, Kind, Free, Pos, Neg, NonNeg, ZeroKind, kind_at, any_default, eq_or, Bits, Mark, IsMarked, mark_in, none, word_at, bit_of, word_of, weakened, kind_of_mark, kind_there}
use Rattle.crn_sign.proofs.BitLaws.{marked, other_bits}
use Rattle.crn_sign.proofs.kinds.KeptKinds.ask_signed.Goals as goal

-- what is not weak is not weakened
firm : (κ : Kind) → weakened κ 0 ≡ κ
firm Pos = refl
firm Neg = refl
firm NonNeg = refl
firm ZeroKind = refl
firm Free = refl

pub returns : goal.returns
returns c =
    let g = c.args.g in
    let kind = c.args.kind in
    let kept = c.requires.kept in
    let kinds = c.args.self.now.kinds.items in
    let weak = c.args.self.now.weak.items in
    let word = c.without_bit.result in
    let asked = c.args.self.now.asked.items in
    let mark = c.mark_of_kind.result in
    let new = set asked (g / 64) c.with_mark.result in
    let bits : c.index.result.now ≡ word_at asked (g / 64) = c.index.ensures ∙ any_default c.index.result.now none asked (g / 64) (omega (arith, c.requires.goal, kept.words)) in
    let put : IsMarked asked g mark new = marked asked g c.with_mark.result mark (omega (arith, c.requires.goal, kept.words)) c.with_mark.ensures.here
    (λ j j_lt apart. c.with_mark.ensures.others j j_lt apart ∙ ap (λ (b : Bits). mark_in b j) bits) in
    let was : c.index-2.result.now ≡ word_of weak (g / 64) = c.index-2.ensures ∙ any_default c.index-2.result.now 0 weak (g / 64) (omega (arith, c.requires.goal, kept.weak_words)) in
    let there : kind_at (set kinds g kind) g ≡ kind = get_or-set_same kinds g kind Free (omega (arith, c.requires.goal, kept.long)) in
    let words : g < length weak * 64 = omega (arith, c.requires.goal, kept.weak_words) in
    let clear : bit_of (set weak (g / 64) word) g ≡ 0 = ap (λ (b : ℕ). bit_at b (g % 64)) (get_or-set_same weak (g / 64) word 0 (omega (arith, c.requires.goal, kept.weak_words))) ∙ c.without_bit.ensures.clear in
    let signed : kind_there (set weak (g / 64) word) new g ≡ kind =
    ap₂ (λ (m : Mark) (x : ℕ). weakened (kind_of_mark m) x) put.here clear ∙ firm (kind_of_mark c.mark_of_kind.result) ∙ c.mark_of_kind.ensures c.requires.asked in
    record {
      kept = record {
        long = length-set kinds g kind ∙ kept.long;
        words = put.count ∙ kept.words;
        weak_words = length-set weak (g / 64) word ∙ kept.weak_words;
        are = λ k lt. elim (eq_or k g) as (λ _. kind_at (set kinds g kind) k ≡ kind_there (set weak (g / 64) word) new k) [
          | inl e ↦ ap (kind_at (set kinds g kind)) e ∙ there ∙ sym signed ∙ ap (kind_there (set weak (g / 64) word) new) (sym e)
          | inr ne ↦ get_or-set_other kinds g k kind Free ne ∙ kept.are k lt
              ∙ ap₂ (λ (m : Mark) (x : ℕ). weakened (kind_of_mark m) x) (sym (put.others k ne)) (sym (other_bits weak g word words (λ i i_lt apart. c.without_bit.ensures.others i i_lt apart ∙ ap (λ (x : ℕ). bit_at x i) was) k ne))
        ];
      };
      here = there;
    }
