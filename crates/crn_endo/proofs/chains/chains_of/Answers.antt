use Rattle.crn_endo.proofs.Prelude.{◌≡◌, ◌+◌, ◌-◌, ◌<◌, ◌∙◌, ℕ, length, replicate, sym, ap₂, subst, arith, AreChains}
use Rattle.crn_endo.proofs.ChainLaws.{chains_more, chains_none}
use Rattle.crn_endo.proofs.chains.chains_of.Goals as goal

pub loop-q-init : goal.loop-q-init
loop-q-init c =
    let net = c.args.net.now in
    let n = c.reactions-reactions.result in
    let first : c.in_ok-first.first.items ≡ replicate c.complexes.result n = (let free = c.in_ok-first.ensures.items_if_clones_equal in free (λ y e. e)) in
    let next : c.in_ok-next.next.items ≡ replicate n n = (let free = c.in_ok-next.ensures.items_if_clones_equal in free (λ y e. e)) in
    let all : n ≡ length net.reactions = c.reactions-reactions.ensures.count in (
      omega (arith, all),
      subst (λ (k : ℕ). AreChains net k c.in_ok-first.first.items c.in_ok-next.next.items) (sym all)
          (chains_none net c.in_ok-first.first.items c.in_ok-next.next.items (first ∙ ap₂ (λ (a b : ℕ). replicate a b) c.complexes.ensures.count all) (next ∙ ap₂ (λ (a b : ℕ). replicate a b) all all)),
    )

pub reactant-c-requires : goal.reactant-c-requires
reactant-c-requires c = omega (arith, c.loop-q-test.true, c.loop-q.invariant.0)

pub loop-q-preserved : goal.loop-q-preserved
loop-q-preserved c =
    let net = c.args.net.now in
    let q = c.loop-q.q - 1 in
    let first = c.loop-q.first.items in
    let next = c.loop-q.next.items in
    let same : c.loop-q.q ≡ q + 1 = omega (arith, c.loop-q-test.true) in
    let inside : q < length net.reactions = omega (arith, c.loop-q-test.true, c.loop-q.invariant.0) in
    let before : AreChains net (q + 1) first next = subst (λ (k : ℕ). AreChains net k first next) same c.loop-q.invariant.1 in (
      omega (arith, inside),
      chains_more net q c.reactant-c.result c.index.result.now first next inside (omega (arith, c.reactant-c.ensures.complex, before.complexes)) c.reactant-c.ensures.value c.index.ensures before,
    )
