use Rattle.crn_farkas.proofs.Prelude.{◌≢◌, ◌<◌, ◌⊎◌, ◌∙◌, ℕ, inl, inr, List, length, get_or, sym, subst, arith, Kind, Pos, Free, entry, HasSign, HasKind, kind_at, any_default}
use Rattle.std.proofs.Common.{Bool, pos, false, IsTrue}
use Rattle.crn_farkas.proofs.Pairs.{kind_some}
use Rattle.crn_farkas.proofs.Marks.{set_mark}
use Rattle.crn_farkas.proofs.feasible.mark.Goals as goal
use Rattle.crn_farkas.proofs.feasible.mark.Goals.{then-counts, else-counts}

pub loop-c-preserved : goal.loop-c-preserved
loop-c-preserved c =
    let kinds = c.args.kinds.now in
    let g = c.args.g in
    let j = c.loop-c.c in
    let g_lt : g < length kinds = omega (arith, c.requires.goal, c.requires.kinds) in
    let old = c.loop-c.invariant in
    record {
      count = c.if-counts.auto.marks ∙ old.count;
      marked = λ y seen k. (
          let P : List Bool → Type 0 = λ l. IsTrue (get_or l k false) → IsTrue (get_or c.args.marks.now k false) ⊎ (entry y k ≢ pos 0) in
          let asked : HasSign c.sign_asked.result (entry y g) = c.sign_asked.ensures.sign (entry y g) (subst (λ (κ : Kind). HasKind κ (entry y g)) (any_default Free Pos kinds g g_lt) seen.1) in
          let lead = c.lead_sign-lead.ensures y seen.0 asked (kind_some (kind_at kinds g) (entry y g) c.requires.asked seen.1) in
          let here = c.column_sign.ensures y seen.0 lead in
          elim c.if-counts.branch as (λ _. P c.if-counts.marks) [
            | then-counts w ↦ subst P (sym w.marks-is) (λ m. elim (set_mark c.loop-c.marks j k (omega (arith, c.loop-c-test.true, c.loop-c.auto.marks, c.requires.marks)) m) as (λ _. IsTrue (get_or c.args.marks.now k false) ⊎ (entry y k ≢ pos 0)) [
              | inl o ↦ old.marked y seen k o
              | inr e ↦ inr (subst (λ (i : ℕ). entry y i ≢ pos 0) (sym e) ((c.counts.ensures (entry y j) here).0 w.if-counts.true).1)
            ])
            | else-counts w ↦ subst P (sym w.marks-is) (old.marked y seen k)
          ]
          );
    }
