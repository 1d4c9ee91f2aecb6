use Rattle.crn_check.proofs.Prelude.{◌≡◌, ◌++◌, ◌∷◌, [], List, length, length-append, refl, sym, ap, subst, arith, false≢true, IsIn, all_in, all_from, in_left, Fact, Room, KeptFacts, HoldsNoneFrom, AreInOrder, IsRoom}
use Rattle.crn_check.proofs.Kept.{earlier_of, numbers_of, few_before, order_push}
use Rattle.crn_check.proofs.facts.Facts.accept.Goals as goal

pub add-requires-clause-few : goal.add-requires-clause-few
add-requires-clause-few c =
    let items = c.self.inside.items.items in
    let is : earlier_of items ≡ c.args.self.now.earlier = ap (λ (k : KeptFacts). k.earlier) c.self.view_is in
    let later : HoldsNoneFrom c.args.question (earlier_of items) = subst (HoldsNoneFrom c.args.question) (sym is) c.requires.later in
    let few = few_before items 0 c.args.question c.self.invariant.1 later (omega (arith, c.requires.number.0)) in
    omega (arith, few, c.requires.number.1)

pub invariant_of-self : goal.invariant_of-self
invariant_of-self c =
    let items = c.self.inside.items.items in
    let old = c.self.inside.rooms.items in
    let new = c.pop.new.self.items in
    let is : earlier_of items ≡ c.args.self.now.earlier = ap (λ (k : KeptFacts). k.earlier) c.self.view_is in
    let later : HoldsNoneFrom c.args.question (earlier_of items) = subst (HoldsNoneFrom c.args.question) (sym is) c.requires.later in
    let fact : Fact = record { question = c.args.question; verdict = c.keep-verdict.result } in
    let more : length c.add.new.items.items ≡ length (items ++ fact ∷ []) = ap (λ (l : List Fact). length l) c.add.ensures.items in
    let parts : old ≡ new ++ c.in-Some.room ∷ [] = c.in-Some.ensures.items in
    let less = ap (λ (l : List Room). length l) parts in (
      c.add.ensures.room,
      subst (λ (fs : List Fact). AreInOrder 0 (numbers_of fs)) (sym c.add.ensures.items) (order_push items 0 c.args.question fact c.self.invariant.1 later (omega (arith, c.requires.number.0)) c.requires.number.1 refl),
      all_from IsRoom new (λ room i. all_in IsRoom old room c.self.invariant.2 (subst (IsIn room) (sym parts) (in_left room new (c.in-Some.room ∷ []) i))),
      omega (arith, c.self.invariant.3, more, less, length-append items (fact ∷ []), length-append new (c.in-Some.room ∷ [])),
      c.self.invariant.4,
    )

pub returns-in_default : goal.returns-in_default
returns-in_default c =
    let items = c.self.inside.items.items in
    let is : earlier_of items ≡ c.args.self.now.earlier = ap (λ (k : KeptFacts). k.earlier) c.self.view_is in
    let later : HoldsNoneFrom c.args.question (earlier_of items) = subst (HoldsNoneFrom c.args.question) (sym is) c.requires.later in
    let few = few_before items 0 c.args.question c.self.invariant.1 later (omega (arith, c.requires.number.0)) in
    absurd (false≢true (c.in_default.ensures.variant.1 (omega (arith, few, c.requires.number.1, c.self.invariant.3))))
