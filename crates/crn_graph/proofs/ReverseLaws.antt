-- Reverses of reactions, by the arcs along them.
use Rattle.crn_graph.proofs.Prelude.{◌≡◌, ℕ, ◌+◌, ◌-◌, ◌<◌, List, [], ◌∷◌, ◌++◌, length, get_or, refl, sym, subst, ◌∙◌, inl, inr, arith, get_or_append_left, get_or_push, cases_lt, IsIn, Net, IsReaction, IsReversible, named_in, goes_at, IsReactionNumber, HasNoReverse, IsFrom, AreFrom, IsReverse, AreReverses, Arc, Along, HasArc, AreArcsOf}
use Rattle.crn_graph.proofs.LinkTests.{in_numbered, are_from}

-- an arc along a reaction is that reaction
pub arc_along : (net : Net) (arcs : List Arc) (r y z : ℕ) → AreArcsOf net Along arcs → HasArc arcs r y z → IsReactionNumber net r y z
arc_along net arcs r y z h a =
    let g = h.sound r y z a in
    subst (λ (v : ℕ). IsReactionNumber net r v z) (sym g.allows.0) (subst (λ (v : ℕ). IsReactionNumber net r g.a v) (sym g.allows.1) g.is)

pub along_arc : (net : Net) (arcs : List Arc) (r y z : ℕ) → AreArcsOf net Along arcs → IsReactionNumber net r y z → HasArc arcs r y z
along_arc net arcs r y z h is = h.whole r y z (record { a = y; b = z; is = is; allows = (refl, refl) })

pub none_missing : (net : Net) (arcs : List Arc) (r y z : ℕ) → AreArcsOf net Along arcs → r < length net.reactions → y ≡ (get_or net.reactions r (0, 0)).0 → z ≡ (get_or net.reactions r (0, 0)).1 → ((q : ℕ) → HasArc arcs q z y → ⊥)
    → (IsReversible net.reactions → ⊥) × IsFrom 1 (length net.reactions) (r + 1) × HasNoReverse net (r + 1)
none_missing net arcs r y z h lt p q none =
    let e : r + 1 - 1 ≡ r = omega arith in
    let goes : IsReactionNumber net (r + 1) y z = (omega arith, subst (λ (k : ℕ). IsReaction net.reactions k y z) (sym e) (goes_at net r y z lt p q)) in
    let no : IsIn (z, y) net.reactions → ⊥ = λ i. let n = in_numbered net z y i in none n.0 (along_arc net arcs n.0 z y h n.1) in (
      λ reversible. no (reversible y z (named_in net (r + 1) y z goes)),
      (omega arith, omega (arith, lt)),
      (y, z, goes, no),
    )

pub reverses_more : (net : Net) (arcs : List Arc) (r y z b : ℕ) (back : List ℕ) → AreArcsOf net Along arcs → r < length net.reactions → y ≡ (get_or net.reactions r (0, 0)).0 → z ≡ (get_or net.reactions r (0, 0)).1 → HasArc arcs b z y
    → length back ≡ r → ((q : ℕ) → q < r → IsReverse net q (get_or back q 0)) → (q : ℕ) → q < r + 1 → IsReverse net q (get_or (back ++ b ∷ []) q 0)
reverses_more net arcs r y z b back h lt p e arc long old q less = elim (cases_lt q r) [
  | inl early ↦ subst (IsReverse net q) (sym (get_or_append_left back (b ∷ []) 0 q (omega (arith, long)))) (old q early)
  | inr ge ↦
      let at : q ≡ r = omega arith in
      let last : get_or (back ++ b ∷ []) q 0 ≡ b = get_or_push back b 0 q (omega (arith, long, at)) in
      subst (IsReverse net q) (sym last) (record {
        y = y;
        z = z;
        goes = subst (λ (k : ℕ). IsReaction net.reactions k y z) (sym at) (goes_at net r y z lt p e);
        back = arc_along net arcs b z y h arc;
      })
]

-- the reverse of a pair is a reaction
abbrev IsReversed : Net → ℕ × ℕ → Type 0
IsReversed net p = IsIn (p.1, p.0) net.reactions

pub reverses_all : (net : Net) (back : List ℕ) → length back ≡ length net.reactions → AreReverses net back → IsReversible net.reactions × AreFrom (length net.reactions) 1 (length net.reactions) back × AreReverses net back
reverses_all net back long all = (
  λ y z i.
      let n = in_numbered net y z i in
      let f = all (n.0 - 1) n.1.1.0 in
      let ends : (f.y, f.z) ≡ (y, z) = sym f.goes.1 ∙ n.1.1.1 in
      let there = named_in net (get_or back (n.0 - 1) 0) f.z f.y f.back in
      subst (IsReversed net) ends there,
  are_from (length net.reactions) 1 (length net.reactions) back long (λ r lt. let f = all r lt in (f.back.0, omega (arith, f.back.0, f.back.1.0))),
  all,
)
