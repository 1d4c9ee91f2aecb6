use Rattle.crn_farkas.proofs.Prelude.{ℕ, inl, inr, sym, subst, ◌∙◌, arith, false≢true, IsNamedRow, IsIn, eq_or}
use Rattle.crn_farkas.proofs.Ruling.{cut_of_ruling, rules_below, rules_of, ruling_of_cut, ruling_some}
use Rattle.crn_farkas.proofs.cut.kept_cut.Goals as goal
use Rattle.crn_farkas.proofs.cut.kept_cut.Goals.{then-not-is_basic+in_default, else-not-is_basic}

pub returns-in-Some : goal.returns-in-Some
returns-in-Some c =
    let a = c.args.tableau.now.matrix in
    let kinds = c.args.kinds.now in
    record {
      inside = omega (arith, c.loop-row-test.true, c.requires);
      outside = λ member. false≢true (sym c.if-not-is_basic.true ∙ c.is_basic.ensures.1 member);
      cuts = record { some = c.in-Some.ensures.0; rules = λ w named signed. cut_of_ruling a kinds w named.space c.requires (rules_of kinds _ w c.requires named.space.long (c.in-Some.ensures.1 w (named, signed))) };
    }

pub loop-row-preserved : goal.loop-row-preserved
loop-row-preserved c = λ e w lt named some rules.
    let row = c.loop-row.row in
    elim (eq_or e row) as (λ _. ⊥) [
      | inr ne ↦ c.loop-row.invariant e w (omega (arith, lt, ne)) named some rules
      | inl same ↦ elim c.if-not-is_basic.branch as (λ _. ⊥) [
        | then-not-is_basic+in_default b ↦
            b.in_default.ensures w (subst (λ (k : ℕ). IsNamedRow c.args.tableau.now.matrix c.args.tableau.now.basis k w) same named) (rules_below c.args.kinds.now _ w c.requires (ruling_of_cut c.args.tableau.now.matrix c.args.kinds.now w named.space rules))
        | else-not-is_basic b ↦ named.outside (subst (λ (k : ℕ). IsIn k c.args.tableau.now.basis) (sym same) (c.is_basic.ensures.0 b.if-not-is_basic.false))
      ]
    ]

pub returns-then-not-some_asked : goal.returns-then-not-some_asked
returns-then-not-some_asked c = λ h.
    let rules = ruling_of_cut c.args.tableau.now.matrix c.args.kinds.now h.w h.named.space h.rules in
    false≢true (sym c.if-not-some_asked.true ∙ c.some_asked.ensures.1 (rules.1.0, rules.1.1))

pub returns : goal.returns
returns c = λ h.
    let a = c.args.tableau.now.matrix in
    let basis = c.args.tableau.now.basis in
    c.loop-row.invariant h.e h.w (omega (arith, h.named.inside, c.requires)) h.named (ruling_some a basis c.args.kinds.now h.e h.w c.names_rows.ensures h.named h.rules) h.rules
