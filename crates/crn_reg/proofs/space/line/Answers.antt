use Rattle.crn_reg.proofs.Prelude.{◌≡◌, ◌<◌, List, inl, inr, ap, subst, arith, ℤ, Mat, lt_or, past_end, IsFirstPlace, AreTies}
use Rattle.crn_reg.proofs.Named.{no_other, one_by}
use Rattle.crn_reg.proofs.space.line.Goals as goal

pub ties-requires-clause-outside : goal.ties-requires-clause-outside
ties-requires-clause-outside c d lt ne i =
    let old = c.args.tableau.now in
    let inside : d < old.matrix.cols = omega (arith, lt, ap (λ (m : Mat). m.cols) c.in_ok-bring.ensures.matrix) in
    elim (c.in_ok-bring.ensures.basis d i) as (λ _. ⊥) [
      | inl p ↦ no_other old.basis old.matrix.cols c.args.free c.requires.free c.requires.none d inside p.1 p.0
      | inr e ↦ ne e
    ]

pub returns-clause-space : goal.returns-clause-space
returns-clause-space c =
    let old = c.args.tableau.now in
    let a = old.matrix in
    let part = c.in_ok-vector.ensures.part in
    let x = c.in_ok-vector.vector.list in
    let place = c.first_place-place.result in
    let first : IsFirstPlace x place = subst (λ (l : List ℤ). IsFirstPlace l place) c.as_slice.ensures c.first_place-place.ensures in
    let same : c.bring.new.tableau.matrix ≡ a = c.in_ok-bring.ensures.matrix in
    record {
      kept = part.kept;
      place = place;
      inside = elim (lt_or place a.cols) as (λ _. place < a.cols) [
        | inl lt ↦ lt
        | inr ge ↦ absurd (first.some (past_end x place (omega (arith, ge, part.kept.solution.long))))
      ];
      first = first;
      ties_are = subst (λ (m : Mat). AreTies m place c.in_ok-ties.ties) same c.in_ok-ties.ensures;
      one = λ g h sg sh. one_by a old.basis c.args.free x g h c.names_rows.ensures c.requires.free.member (no_other old.basis a.cols c.args.free c.requires.free c.requires.none) part.own part.kept.solution sg sh;
    }
