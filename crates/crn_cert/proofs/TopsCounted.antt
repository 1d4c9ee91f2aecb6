-- The count of the tops is the number of terminal strong classes.
use Rattle.crn_cert.proofs.Prelude.{◌≡◌, ◌≤◌, ◌<◌, inl, inr, ℕ, zero, suc, List, [], ◌∷◌, length, refl, sym, ap, subst, arith, Option, Some, IsIn, Net, AreApart, AreRepresentatives, IsNumberOf, SameStrong, IsTerminal, IsComplex, AreTops, top_at, top_inside, option_or, below_or}

-- one complex of each of the first classes
record Chosen (net : Net) (tops : List (Option ℕ)) (n : ℕ) : Type 0 where
  ys : List ℕ
  long : length ys ≡ n
  numbers : (y : ℕ) → IsIn y ys → (k : ℕ) × (k < n) × (top_at tops y ≡ Some k)
  each : (k : ℕ) → k < n → (y : ℕ) × IsIn y ys × (top_at tops y ≡ Some k)
  apart : AreApart (SameStrong net.reactions) ys

choose : (net : Net) (tops : List (Option ℕ)) (count : ℕ) → AreTops net tops count → (n : ℕ) → n ≤ count → Chosen net tops n
choose net tops count t zero h = record { ys = []; long = refl; numbers = λ y i. absurd i; each = λ k l. absurd (omega (arith, l)); apart = tt }
choose net tops count t (suc n) h =
    let c = choose net tops count t n (omega (arith, h)) in
    let new = t.each n (omega (arith, h)) in
    record {
      ys = new.0 ∷ c.ys;
      long = ap suc c.long;
      numbers = λ y i. elim i [
        | inl e ↦ (n, omega arith, subst (λ (x : ℕ). top_at tops x ≡ Some n) (sym e) new.1)
        | inr j ↦ let k = c.numbers y j in let less = k.1 in (k.0, omega (arith, less), k.2)
      ];
      each = λ k l. elim (below_or k n l) [
        | inl less ↦ let y = c.each k less in (y.0, inr y.1, y.2)
        | inr e ↦ (new.0, inl refl, subst (λ (m : ℕ). top_at tops new.0 ≡ Some m) (sym e) new.1)
      ];
      apart = (λ y j s. let k = c.numbers y j in let less = k.1 in let same = t.together new.0 y n k.0 new.1 k.2 s in omega (arith, less, same), c.apart);
    }

pub tops_are_counted : (net : Net) (tops : List (Option ℕ)) (count : ℕ) → AreTops net tops count
    → IsNumberOf (λ y. IsComplex net y × IsTerminal net.reactions y) (SameStrong net.reactions) count
tops_are_counted net tops count t =
    let c = choose net tops count t count (omega arith) in
    let all : AreRepresentatives (λ y. IsComplex net y × IsTerminal net.reactions y) (SameStrong net.reactions) c.ys = record {
      members = λ y i. let k = c.numbers y i in let inside = top_inside tops y k.0 k.2 in let long = t.long in (omega (arith, inside, long), t.inside y k.0 k.2);
      apart = c.apart;
      each = λ z h. elim (option_or (top_at tops z)) [
        | inl none ↦ absurd (t.outside z h.0 none h.1)
        | inr (k, e) ↦ let y = c.each k (t.below z k e) in (y.0, y.1, t.same y.0 z k y.2 e)
      ];
    } in
    (c.ys, all, c.long)
