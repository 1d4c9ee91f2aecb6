use Rattle.crn_siphon.proofs.Prelude.{◌≡◌, ℕ, inl, inr, get_or, sym, subst, ◌∙◌, arith, false≢true, lt_or, any_default, Ends, HasCommon, IsWithin}
use Rattle.crn_siphon.proofs.Stops.{bad_among, none_stops}
use Rattle.crn_siphon.proofs.ends.stopping_among.Goals as goal

pub returns-then-stops : goal.returns-then-stops
returns-then-stops c = λ p is. bad_among c.args.net.now c.args.place p c.args.s c.args.ends.now c.loop-i.i _ c.requires.holders (omega arith) (c.stops.ensures.0 c.if-stops.true) is

pub loop-i-preserved : goal.loop-i-preserved
loop-i-preserved c = λ k none lt h. elim (lt_or k c.loop-i.i) [
  | inl less ↦ c.loop-i.invariant k none less h
  | inr past ↦
      let same : k ≡ c.loop-i.i = omega (arith, lt, past) in
      let one : Ends → Type 0 = λ (e : Ends). HasCommon e.product c.args.place.inside × IsWithin e.reactant c.args.place.outside in
      false≢true (sym c.if-stops.false ∙ c.stops.ensures.1 (subst one (any_default none _ c.args.ends.now c.loop-i.i (omega arith)) (subst (λ (j : ℕ). one (get_or c.args.ends.now j none)) same h)))
]

pub returns : goal.returns
returns c = none_stops c.args.net.now c.args.place c.args.s c.args.ends.now c.requires.holders c.requires.last c.requires.species
    (λ k none lt h. c.loop-i.invariant k none (omega (arith, lt)) h) (record { reaction = 0; reactant = c.args.place.inside; product = c.args.place.inside })
