use Rattle.crn_text.proofs.Prelude.{◌≡◌, ℕ, true, List, sym, subst, ◌∙◌, bytes_eq-Decides, Term, ReadsTerms}
use Rattle.crn_text.proofs.held.terms_at.Goals as goal

pub returns-then-eq : goal.returns-then-eq
returns-then-eq c =
    let side = c.args.side.now in
    let held = c.held.inside in
    let same : c.as_slice.result.now ≡ side = (bytes_eq-Decides c.as_slice.result.now side).0 (sym c.eq.ensures ∙ c.if-eq.true) in
    let bytes : held.bytes.items ≡ side = sym c.as_slice.ensures.value ∙ same in
    subst (λ (ts : List Term). ReadsTerms side side ts true) (sym c.as_slice-then-eq.ensures.value) (subst (λ (s : List ℕ). ReadsTerms s s held.terms.items true) bytes c.held.invariant)
