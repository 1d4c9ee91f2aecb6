use Rattle.crn_check.proofs.Prelude.{◌≡◌, ◌≤◌, ◌<◌, ◌+◌, ◌==◌, ◌∙◌, ℕ, Bool, true, false, inl, inr, List, [], ◌∷◌, ◌++◌, length, get_or, sym, ap, arith, ◌||◌, slice_set, list_any, range_with_len, eqb-true, eq-eqb, get_or-set_at, get_or-set_other, get_or-replicate, length-set, all_at, any_has, and_true, and_no, eq_or, in_range, range_more, MAX_COMPLEXES, is_in_both}
use Rattle.crn_check.proofs.terminals.marks_in.Goals.{then-linkage-c, else-linkage-c}
use Rattle.crn_check.proofs.terminals.marks_in.Goals as goal

any_skip : (p : ℕ → Bool) (xs : List ℕ) (x : ℕ) → p x ≡ false → list_any p (xs ++ x ∷ []) ≡ list_any p xs
any_skip p [] x miss = ap (λ (b : Bool). b || false) miss
any_skip p (y ∷ ys) x miss = ap (λ (b : Bool). p y || b) (any_skip p ys x miss)

pub loop-c-init : goal.loop-c-init
loop-c-init c = record { long = omega arith; each = λ m le. get_or-replicate 161 m false false (omega (arith, le)) }

pub loop-c-preserved : goal.loop-c-preserved
loop-c-preserved c =
    let strong = c.args.strong.now in
    let linkage = c.args.linkage.now in
    let k = c.args.k in
    let at = c.loop-c.c in
    let marks = c.loop-c.marks in
    let new = c.if-linkage-c.marks in
    let label = get_or strong at 0 in
    let h = c.loop-c.invariant in
    let skip = λ (m : ℕ) (miss : is_in_both strong linkage m k at ≡ false). ap (list_any (is_in_both strong linkage m k)) (range_more 0 at at (omega arith)) ∙ any_skip (is_in_both strong linkage m k) (range_with_len 0 at) at miss in
    elim c.if-linkage-c.branch [
      | then-linkage-c b ↦
          let inside : label < length marks = omega (arith, h.long, all_at (λ m. m ≤ MAX_COMPLEXES) strong at 0 c.requires.labels c.loop-c-test.true) in
          record {
            long = ap (λ (l : List Bool). length l) b.marks-is ∙ length-set marks label true ∙ h.long;
            each = λ m le. ap (λ (l : List Bool). get_or l m false) b.marks-is ∙ elim (eq_or m label) as (λ _. get_or (slice_set marks label true) m false ≡ list_any (is_in_both strong linkage m k) (range_with_len 0 (at + 1))) [
              | inl same ↦
                  get_or-set_at marks label m true false same inside
                  ∙ sym (any_has (is_in_both strong linkage m k) (range_with_len 0 (at + 1)) at (in_range at 0 (at + 1) (omega arith) (omega arith))
                  (and_true (label == m) (get_or linkage at 0 == k) (eq-eqb label m (sym same)) (eq-eqb (get_or linkage at 0) k b.if-linkage-c.true)))
              | inr other ↦
                  get_or-set_other marks label m true false other ∙ h.each m le
                  ∙ sym (skip m (and_no (label == m) (get_or linkage at 0 == k) (λ e f. other (sym (eqb-true label m e)))))
            ];
          }
      | else-linkage-c b ↦ record {
        long = ap (λ (l : List Bool). length l) b.marks-is ∙ h.long;
        each = λ m le.
            ap (λ (l : List Bool). get_or l m false) b.marks-is ∙ h.each m le
            ∙ sym (skip m (and_no (label == m) (get_or linkage at 0 == k) (λ e f. b.if-linkage-c.false (eqb-true (get_or linkage at 0) k f))));
      }
    ]
