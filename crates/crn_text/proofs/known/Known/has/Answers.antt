use Rattle.crn_text.proofs.Prelude.{◌≡◌, ℕ, List, [], ◌∷◌, sym, subst, ◌∙◌, arith, bytes_eq-Decides, IsIn, all_at, line_at, Place}
use Rattle.crn_text.proofs.known.Known.has.Goals as goal

abbrev none : Place
none = record { at = 0; length = 0 }

pub returns : goal.returns
returns c = λ read known is.
    let there = all_at (λ p. IsIn (line_at c.args.text.now p) ([] ∷ read)) c.args.self.now.places c.slot.result none known (omega (arith, c.slot.ensures)) in
    let same : c.bytes_at.result.now ≡ c.args.line.now = (bytes_eq-Decides c.bytes_at.result.now c.args.line.now).0 (sym c.eq.ensures ∙ is) in
    subst (λ (l : List ℕ). IsIn l ([] ∷ read)) (sym c.bytes_at.ensures ∙ same) there
