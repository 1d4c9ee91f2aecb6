-- Walks round linked pairs, step by step, and links by their reactions.
use Rattle.crn_check.proofs.Prelude.{◌≡◌, inl, inr, ℕ, zero, suc, ◌+◌, ◌-◌, ◌<◌, ◌≤◌, List, [], ◌∷◌, length, get_or, drop, refl, sym, ap, subst, ◌∙◌, arith, AllByRecursion, drop_more, Net, IsLinked, IsReaction, IsAlong, IsBetween, IsFreeStep, least_one, IsFrom, from_zero, WalkLeads, IsWayRound}
use Rattle.crn_check.proofs.Counted.{place_between, between_place}

-- a reaction between two complexes, in either direction, links them
pub linked_by : (net : Net) (r y z a b : ℕ) → IsReaction net.reactions r y z → IsBetween y z a b → IsLinked net.reactions a b
linked_by net r y z a b goes (inl at) = inl (between_place net r a b (rw (at.0, at.1) goes))
linked_by net r y z a b goes (inr at) = inr (between_place net r b a (rw (at.0, at.1) goes))

-- linked complexes are those of a reaction
pub links_by : (net : Net) (a b : ℕ) → IsLinked net.reactions a b → (r : ℕ) × (y : ℕ) × (z : ℕ) × IsReaction net.reactions r y z × IsBetween y z a b
links_by net a b (inl to) = let f = place_between net a b to in (f.0, a, b, f.1, inl (refl, refl))
links_by net a b (inr to) = let f = place_between net b a to in (f.0, b, a, f.1, inr (refl, refl))

-- ---- one step more

abbrev Step : Net → ℕ → ℕ → ℕ → ℕ → Type 0
Step net y z = IsFreeStep net.reactions y z

-- the complexes of a walk from place k on lead from c to z
abbrev pub Leads : Net → ℕ → ℕ → List ℕ → ℕ → ℕ → Type 0
Leads net y z walk k c = IsAlong (Step net y z) c (from_zero (drop k walk)) z

cut : (walk : List ℕ) (k : ℕ) → k < length walk → drop k walk ≡ get_or walk k 0 ∷ drop (k + 1) walk
cut walk k lt = drop_more walk k 0 lt

pub leads_more : (net : Net) (y z : ℕ) (walk : List ℕ) (k c : ℕ) → k < length walk → Leads net y z walk k c → Step net y z c (get_or walk k 0 - 1) × Leads net y z walk (k + 1) (get_or walk k 0 - 1)
leads_more net y z walk k c lt h = subst (λ (l : List ℕ). IsAlong (Step net y z) c (from_zero l) z) (cut walk k lt) h

pub leads_less : (net : Net) (y z : ℕ) (walk : List ℕ) (k c : ℕ) → k < length walk → Step net y z c (get_or walk k 0 - 1) → Leads net y z walk (k + 1) (get_or walk k 0 - 1) → Leads net y z walk k c
leads_less net y z walk k c lt step h = subst (λ (l : List ℕ). IsAlong (Step net y z) c (from_zero l) z) (sym (cut walk k lt)) (step, h)

pub leads_end : (net : Net) (y z : ℕ) (walk : List ℕ) (k c : ℕ) → length walk ≤ k → Leads net y z walk k c ≡ (c ≡ z)
leads_end net y z walk k c all = ap (λ (l : List ℕ). IsAlong (Step net y z) c (from_zero l) z) (none walk k all)
  where
    none : (walk : List ℕ) (k : ℕ) → length walk ≤ k → drop k walk ≡ []
    none [] zero all = refl
    none [] (suc k) all = refl
    none (x ∷ walk) zero all = absurd (omega (arith, all))
    none (x ∷ walk) (suc k) all = none walk k (omega (arith, all))

-- ---- the whole walk

pub round_by : (net : Net) (n r y z : ℕ) (walk : List ℕ) → 1 ≤ length walk → AllByRecursion (IsFrom 1 n) walk → 1 ≤ r → IsReaction net.reactions (r - 1) y z → get_or walk 0 0 - 1 ≡ y → Leads net y z walk 1 y → IsWayRound net r walk
round_by net n r y z [] some each one goes first leads = absurd (omega (arith, some))
round_by net n r y z (x ∷ walk) some each one goes first leads = record { y = y; z = z; goes = (one, goes); leads = (omega (arith, first, each.0.0), least_one n walk each.1, leads) }

pub round_first : (net : Net) (r y z : ℕ) (walk : List ℕ) → IsReaction net.reactions (r - 1) y z → IsWayRound net r walk → (get_or walk 0 0 - 1 ≡ y) × Leads net y z walk 1 y
round_first net r y z walk goes h =
    let same : (h.y, h.z) ≡ (y, z) = sym h.goes.1.1 ∙ goes.1 in
    parts walk (subst (λ (p : ℕ × ℕ). WalkLeads (IsFreeStep net.reactions p.0 p.1) p.0 walk p.1) same h.leads)
  where
    parts : (walk : List ℕ) → WalkLeads (IsFreeStep net.reactions y z) y walk z → (get_or walk 0 0 - 1 ≡ y) × Leads net y z walk 1 y
    parts [] leads = absurd leads
    parts (x ∷ walk) leads = (omega (arith, leads.0), leads.2)
