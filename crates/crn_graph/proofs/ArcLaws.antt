-- Arcs of a list that grows at its end.
use Rattle.crn_graph.proofs.Prelude.{◌≡◌, ◌⊎◌, ℕ, ◌+◌, ◌-◌, ◌<◌, List, [], ◌∷◌, ◌++◌, length, get_or, refl, sym, ap, subst, ◌∙◌, inl, inr, arith, get_or_append_left, get_or_push, length-append, cases_lt, cases_eq, Net, IsBetween, IsReactionNumber, Arc, Way, Along, Against, Links, Round, no_arc, arc_at, HasArc, AreInside, Allows, Adds, AreArcsTo, AreArcsOf}

-- ---- one arc more

at_old : (arcs : List Arc) (x : Arc) (p : ℕ) → p < length arcs → arc_at (arcs ++ x ∷ []) p ≡ arc_at arcs p
at_old arcs x p lt = get_or_append_left arcs (x ∷ []) no_arc p lt

at_new : (arcs : List Arc) (x : Arc) → arc_at (arcs ++ x ∷ []) (length arcs) ≡ x
at_new arcs x = get_or_push arcs x no_arc (length arcs) refl

long : (arcs : List Arc) (x : Arc) → length (arcs ++ x ∷ []) ≡ length arcs + 1
long arcs x = length-append arcs (x ∷ [])

pub arc_same : (arcs : List Arc) (x : Arc) (r y z : ℕ) → HasArc arcs r y z → HasArc (arcs ++ x ∷ []) r y z
arc_same arcs x r y z h =
    let e = at_old arcs x h.place h.inside in
    record {
      place = h.place;
      inside = omega (arith, h.inside, long arcs x);
      from_is = ap (λ (a : Arc). a.from) e ∙ h.from_is;
      to_is = ap (λ (a : Arc). a.to) e ∙ h.to_is;
      reaction_is = ap (λ (a : Arc). a.reaction) e ∙ h.reaction_is;
    }

pub arc_made : (arcs : List Arc) (x : Arc) → HasArc (arcs ++ x ∷ []) x.reaction x.from x.to
arc_made arcs x =
    let e = at_new arcs x in
    record {
      place = length arcs;
      inside = omega (arith, long arcs x);
      from_is = ap (λ (a : Arc). a.from) e;
      to_is = ap (λ (a : Arc). a.to) e;
      reaction_is = ap (λ (a : Arc). a.reaction) e;
    }

pub arc_only : (arcs : List Arc) (x : Arc) (r y z : ℕ) → HasArc (arcs ++ x ∷ []) r y z → HasArc arcs r y z ⊎ ((x.reaction ≡ r) × (x.from ≡ y) × (x.to ≡ z))
arc_only arcs x r y z h = elim (cases_lt h.place (length arcs)) [
  | inl lt ↦ let e = sym (at_old arcs x h.place lt) in
      inl (record { place = h.place; inside = lt; from_is = ap (λ (a : Arc). a.from) e ∙ h.from_is; to_is = ap (λ (a : Arc). a.to) e ∙ h.to_is; reaction_is = ap (λ (a : Arc). a.reaction) e ∙ h.reaction_is })
  | inr ge ↦ let last : h.place ≡ length arcs = omega (arith, ge, h.inside, long arcs x) in
      let e : x ≡ arc_at (arcs ++ x ∷ []) h.place = sym (at_new arcs x) ∙ ap (arc_at (arcs ++ x ∷ [])) (sym last) in
      inr (ap (λ (a : Arc). a.reaction) e ∙ h.reaction_is, ap (λ (a : Arc). a.from) e ∙ h.from_is, ap (λ (a : Arc). a.to) e ∙ h.to_is)
]

-- ---- the arcs of one reaction

has_at : (arcs : List Arc) (r r' y y' z z' : ℕ) → r ≡ r' → y ≡ y' → z ≡ z' → HasArc arcs r y z → HasArc arcs r' y' z'
has_at arcs r r' y y' z z' p q s h = record { place = h.place; inside = h.inside; from_is = h.from_is ∙ q; to_is = h.to_is ∙ s; reaction_is = h.reaction_is ∙ p }

pub adds_along : (a b reaction : ℕ) (old : List Arc) (x : Arc) → x.from ≡ a → x.to ≡ b → x.reaction ≡ reaction → Adds Along a b reaction old (old ++ x ∷ [])
adds_along a b reaction old x f t r = record {
  same = arc_same old x;
  made = λ y z h. has_at (old ++ x ∷ []) x.reaction reaction x.from y x.to z r (f ∙ sym h.0) (t ∙ sym h.1) (arc_made old x);
  only = λ q y z h. elim (arc_only old x q y z h) [ inl g ↦ inl g | inr g ↦ inr (sym g.0 ∙ r, (sym g.1 ∙ f, sym g.2 ∙ t)) ];
}

pub adds_against : (a b reaction : ℕ) (old : List Arc) (x : Arc) → x.from ≡ b → x.to ≡ a → x.reaction ≡ reaction → Adds Against a b reaction old (old ++ x ∷ [])
adds_against a b reaction old x f t r = record {
  same = arc_same old x;
  made = λ y z h. has_at (old ++ x ∷ []) x.reaction reaction x.from y x.to z r (f ∙ sym h.0) (t ∙ sym h.1) (arc_made old x);
  only = λ q y z h. elim (arc_only old x q y z h) [ inl g ↦ inl g | inr g ↦ inr (sym g.0 ∙ r, (sym g.1 ∙ f, sym g.2 ∙ t)) ];
}

-- both arcs, as a reaction allows them in both directions
record AddsBoth (a b reaction : ℕ) (old new : List Arc) : Type 0 where
  same : (r y z : ℕ) → HasArc old r y z → HasArc new r y z
  made : (y z : ℕ) → IsBetween a b y z → HasArc new reaction y z
  only : (r y z : ℕ) → HasArc new r y z → HasArc old r y z ⊎ ((r ≡ reaction) × IsBetween a b y z)

adds_both : (a b reaction : ℕ) (old : List Arc) (x x' : Arc) → x.from ≡ a → x.to ≡ b → x.reaction ≡ reaction → x'.from ≡ b → x'.to ≡ a → x'.reaction ≡ reaction → AddsBoth a b reaction old ((old ++ x ∷ []) ++ x' ∷ [])
adds_both a b reaction old x x' f t r f' t' r' =
    let mid = old ++ x ∷ [] in
    let new = mid ++ x' ∷ [] in
    record {
      same = λ q y z h. arc_same mid x' q y z (arc_same old x q y z h);
      made = λ y z h. elim h [
        | inl g ↦ arc_same mid x' reaction y z (has_at mid x.reaction reaction x.from y x.to z r (f ∙ sym g.0) (t ∙ sym g.1) (arc_made old x))
        | inr g ↦ has_at new x'.reaction reaction x'.from y x'.to z r' (f' ∙ sym g.0) (t' ∙ sym g.1) (arc_made mid x')
      ];
      only = λ q y z h. elim (arc_only mid x' q y z h) [
        | inl g ↦ elim (arc_only old x q y z g) [ inl k ↦ inl k | inr k ↦ inr (sym k.0 ∙ r, inl (sym k.1 ∙ f, sym k.2 ∙ t)) ]
        | inr g ↦ inr (sym g.0 ∙ r', inr (sym g.1 ∙ f', sym g.2 ∙ t'))
      ];
    }

pub adds_links : (a b reaction : ℕ) (old : List Arc) (x x' : Arc) → x.from ≡ a → x.to ≡ b → x.reaction ≡ reaction → x'.from ≡ b → x'.to ≡ a → x'.reaction ≡ reaction → Adds Links a b reaction old ((old ++ x ∷ []) ++ x' ∷ [])
adds_links a b reaction old x x' f t r f' t' r' =
    let both = adds_both a b reaction old x x' f t r f' t' r' in
    record { same = both.same; made = both.made; only = both.only }

pub adds_round : (c d a b reaction : ℕ) (old : List Arc) (x x' : Arc) → (IsBetween c d a b → ⊥) → x.from ≡ a → x.to ≡ b → x.reaction ≡ reaction → x'.from ≡ b → x'.to ≡ a → x'.reaction ≡ reaction → Adds (Round c d) a b reaction old ((old ++ x ∷ []) ++ x' ∷ [])
adds_round c d a b reaction old x x' free f t r f' t' r' =
    let both = adds_both a b reaction old x x' f t r f' t' r' in
    record {
      same = both.same;
      made = λ y z h. both.made y z h.0;
      only = λ q y z h. elim (both.only q y z h) [ inl g ↦ inl g | inr g ↦ inr (g.0, (g.1, free)) ];
    }

pub adds_none : (c d a b reaction : ℕ) (old : List Arc) → IsBetween c d a b → Adds (Round c d) a b reaction old old
adds_none c d a b reaction old between = record {
  same = λ q y z h. h;
  made = λ y z h. absurd (h.1 between);
  only = λ q y z h. inl h;
}

-- ---- the arcs of all reactions

pub arcs_none : (net : Net) (way : Way) → AreArcsTo net way 0 []
arcs_none net way = record {
  sound = λ r y z h. absurd (omega (arith, h.inside));
  whole = λ r y z le g. absurd (omega (arith, g.is.0, le));
}

pair_is : (r : ℕ × ℕ) (a b : ℕ) → a ≡ r.0 → b ≡ r.1 → r ≡ (a, b)
pair_is r a b p q = rw (p, q) refl

pub arcs_more : (net : Net) (way : Way) (count a b : ℕ) (old new : List Arc) → count < length net.reactions → a ≡ (get_or net.reactions count (0, 0)).0 → b ≡ (get_or net.reactions count (0, 0)).1 → AreArcsTo net way count old → Adds way a b (count + 1) old new → AreArcsTo net way (count + 1) new
arcs_more net way count a b old new lt ea eb h adds =
    let at = λ (k : ℕ). get_or net.reactions k (0, 0) in
    let e : count + 1 - 1 ≡ count = omega arith in
    let is : IsReactionNumber net (count + 1) a b = (omega arith, (omega (arith, lt), ap at e ∙ pair_is (at count) a b ea eb)) in
    record {
      sound = λ q y z i. elim (adds.only q y z i) [
        | inl g ↦ h.sound q y z g
        | inr g ↦ record { a = a; b = b; is = subst (λ (k : ℕ). IsReactionNumber net k a b) (sym g.0) is; allows = g.1 }
      ];
      whole = λ q y z le g. elim (cases_eq q (count + 1)) [
        | inr ne ↦ adds.same q y z (h.whole q y z (omega arith) g)
        | inl f ↦
            let place : q - 1 ≡ count = omega (arith, f) in
            let ga : g.a ≡ a = ap (λ (r : ℕ × ℕ). r.0) (sym g.is.1.1 ∙ ap at place) ∙ sym ea in
            let gb : g.b ≡ b = ap (λ (r : ℕ × ℕ). r.1) (sym g.is.1.1 ∙ ap at place) ∙ sym eb in
            let allows : Allows way a b y z = subst (λ (k : ℕ). Allows way a k y z) gb (subst (λ (k : ℕ). Allows way k g.b y z) ga g.allows) in
            subst (λ (k : ℕ). HasArc new k y z) (sym f) (adds.made y z allows)
      ];
    }

-- all reactions are done
pub arcs_all : (net : Net) (way : Way) (arcs : List Arc) → AreArcsTo net way (length net.reactions) arcs → AreArcsOf net way arcs
arcs_all net way arcs h = record {
  sound = h.sound;
  whole = λ r y z g. h.whole r y z (omega (arith, g.is.1.0)) g;
}

-- ---- arcs among the complexes

pub inside_none : (complexes : ℕ) → AreInside complexes []
inside_none complexes = record { from = λ p lt. absurd (omega arith); to = λ p lt. absurd (omega arith) }

allows_inside : (way : Way) (n a b y z : ℕ) → a < n → b < n → Allows way a b y z → (y < n) × (z < n)
allows_inside Along n a b y z la lb h = (omega (arith, h.0), omega (arith, h.1))
allows_inside Against n a b y z la lb h = (omega (arith, h.0), omega (arith, h.1))
allows_inside Links n a b y z la lb h = elim h [ inl g ↦ (omega (arith, g.0), omega (arith, g.1)) | inr g ↦ (omega (arith, g.0), omega (arith, g.1)) ]
allows_inside (Round c d) n a b y z la lb h = elim h.0 [ inl g ↦ (omega (arith, g.0), omega (arith, g.1)) | inr g ↦ (omega (arith, g.0), omega (arith, g.1)) ]

pub inside_more : (way : Way) (n a b reaction : ℕ) (old new : List Arc) → AreInside n old → a < n → b < n → Adds way a b reaction old new → AreInside n new
inside_more way n a b reaction old new h la lb adds =
    let both : (p : ℕ) → p < length new → ((arc_at new p).from < n) × ((arc_at new p).to < n) = λ p lt.
    let x = arc_at new p in
    elim (adds.only x.reaction x.from x.to (record { place = p; inside = lt; from_is = refl; to_is = refl; reaction_is = refl })) [
      | inl g ↦ let u = h.from g.place g.inside in let v = h.to g.place g.inside in (omega (arith, u, g.from_is), omega (arith, v, g.to_is))
      | inr g ↦ allows_inside way n a b x.from x.to la lb g.1
    ] in
    record { from = λ p lt. (both p lt).0; to = λ p lt. (both p lt).1 }
