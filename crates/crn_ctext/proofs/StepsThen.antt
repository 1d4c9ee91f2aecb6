-- One step of a reader after another.
use Rattle.crn_ctext.proofs.Prelude.{◌≡◌, ◌≤◌, ◌+◌, ◌++◌, ℕ, List, ◌∷◌, length, sym, ap, subst, append_assoc, arith, length-append, Consumes-then, Place, IsLineAt, Course, Give, Line, Test, End, ◌>>=◌, Gives, FailsFirst, KeptLines, place, MAX_AHEAD, MAX_DOCUMENT, StepGives, StepEnds, StepFails, StepAwaits, cut}
use Rattle.std.proofs.Common.{Option}
use Rattle.crn_ctext.proofs.Awaited.{awaits_before, awaits_then, awaits_after}
use Rattle.crn_ctext.proofs.Courses.{gives_then, fails_before, fails_then}

-- no byte of a text is lost while a course reads it
pub gives_counts : {A : Type 0} (c : Course A) (at end : Place) (y : A) → Gives c at y end → at.before + length at.left ≡ end.before + length end.left
unfolding Gives
gives_counts (Give x) at end y g = ap (λ (p : Place). p.before + length p.left) g.1
gives_counts (Line node next) at end y g = line g.0 g.1 g.2 (gives_counts (next g.0) g.1 end y g.3)
  where
    line : (l : List ℕ) (after : Place) → IsLineAt at l after → after.before + length after.left ≡ end.before + length end.left → at.before + length at.left ≡ end.before + length end.left
    line l after p rest = omega (arith, ap length p.left, length-append l (10 ∷ after.left), p.before, rest)
gives_counts (Test n code X P next) at end y g = gives_counts (next g.0) at end y g.2
gives_counts (End next) at end y g = gives_counts next at end y g.1

-- what is pulled after a step is counted from where the step began
bound_then : {A : Type 0} (c : Course A) (x : A) (n m most : ℕ) (old mid : KeptLines) (left between : Option (List ℕ)) (p : StepGives c x n m old mid left between) (more : List ℕ)
    → mid.taken + length (mid.ahead ++ more) ≤ most → old.taken + length (old.ahead ++ (p.pulled ++ more)) ≤ most
bound_then c x n m most old mid left between p more le =
    let counts : old.taken + length (old.ahead ++ (p.pulled ++ more)) ≡ mid.taken + length (mid.ahead ++ more) = gives_counts c (place n old (p.pulled ++ more)) (place m mid more) x (let g = p.gives in g more) in
    omega (arith, counts, le)

-- one place, with what follows in two parts
in_parts : (n : ℕ) (old : KeptLines) (x y rest : List ℕ) → place n old ((x ++ y) ++ rest) ≡ place n old (x ++ (y ++ rest))
in_parts n old x y rest = ap (λ (t : List ℕ). place n old t) (append_assoc x y rest)

pub step_then : {A B : Type 0} (c : Course A) (f : A → Course B) (x : A) (y : B) (n m k : ℕ) (old mid new : KeptLines) (left between after : Option (List ℕ))
    → StepGives c x n m old mid left between → StepGives (f x) y m k mid new between after → StepGives (c >>= f) y n k old new left after
step_then c f x y n m k old mid new left between after p q = record {
  pulled = p.pulled ++ q.pulled;
  off = Consumes-then left between after p.pulled q.pulled p.off q.off;
  gives = λ rest. subst (λ (at : Place). Gives (c >>= f) at y (place k new rest)) (sym (in_parts n old p.pulled q.pulled rest))
      (gives_then c f (place n old (p.pulled ++ (q.pulled ++ rest))) (place m mid (q.pulled ++ rest)) (place k new rest) x y (let g = p.gives in g (q.pulled ++ rest)) (let g = q.gives in g rest));
}

pub step_fails_then : {A B : Type 0} (c : Course A) (f : A → Course B) (x : A) (n m line code : ℕ) (old mid : KeptLines) (left between after : Option (List ℕ))
    → StepGives c x n m old mid left between → StepFails (f x) m mid between after line code → StepFails (c >>= f) n old left after line code
step_fails_then c f x n m line code old mid left between after p q = record {
  pulled = p.pulled ++ q.pulled;
  off = Consumes-then left between after p.pulled q.pulled p.off q.off;
  bound = bound_then c x n m (MAX_DOCUMENT + MAX_AHEAD) old mid left between p q.pulled q.bound;
  fails = λ rest h. subst (λ (at : Place). FailsFirst (c >>= f) at line code) (sym (in_parts n old p.pulled q.pulled rest))
      (fails_then c f (place n old (p.pulled ++ (q.pulled ++ rest))) (place m mid (q.pulled ++ rest)) x line code (let g = p.gives in g (q.pulled ++ rest)) (let g = q.fails in g rest h));
  awaits = λ begun last e long. awaits_after c f (place n old (p.pulled ++ q.pulled)) (place m mid q.pulled) x begun last (let g = p.gives in g q.pulled) e
      (λ more ends. let h = q.awaits in h more last ends long);
}

pub step_fails_before : {A B : Type 0} (c : Course A) (f : A → Course B) (n line code : ℕ) (old : KeptLines) (left after : Option (List ℕ))
    → StepFails c n old left after line code → StepFails (c >>= f) n old left after line code
step_fails_before c f n line code old left after p = record { pulled = p.pulled; off = p.off; bound = p.bound; fails = λ rest h. fails_before c f (place n old (p.pulled ++ rest)) line code (let g = p.fails in g rest h); awaits = λ begun last e long. awaits_before c f (cut (place n old p.pulled) begun) (let h = p.awaits in h begun last e long) }

-- a step, and a line that is awaited after it
pub step_awaits_then : {A B : Type 0} (c : Course A) (f : A → Course B) (x : A) (n m : ℕ) (old mid : KeptLines) (left between after : Option (List ℕ))
    → StepGives c x n m old mid left between → StepAwaits (f x) m mid between after → StepAwaits (c >>= f) n old left after
step_awaits_then c f x n m old mid left between after p q = record {
  pulled = p.pulled ++ q.pulled;
  off = Consumes-then left between after p.pulled q.pulled p.off q.off;
  bound = bound_then c x n m (MAX_DOCUMENT + MAX_AHEAD) old mid left between p q.pulled q.bound;
  awaits = awaits_then c f (place n old (p.pulled ++ q.pulled)) (place m mid q.pulled) x (let g = p.gives in g q.pulled) q.awaits;
}

-- a line that is awaited in a step
pub step_awaits_before : {A B : Type 0} (c : Course A) (f : A → Course B) (n : ℕ) (old : KeptLines) (left after : Option (List ℕ)) → StepAwaits c n old left after → StepAwaits (c >>= f) n old left after
step_awaits_before c f n old left after p = record { pulled = p.pulled; off = p.off; bound = p.bound; awaits = awaits_before c f (place n old p.pulled) p.awaits }

pub step_ends_then : {A B : Type 0} (c : Course A) (f : A → Course B) (x : A) (y : B) (n m k : ℕ) (old mid new : KeptLines) (left between after : Option (List ℕ))
    → StepGives c x n m old mid left between → StepEnds (f x) y m k mid new between after → StepEnds (c >>= f) y n k old new left after
step_ends_then c f x y n m k old mid new left between after p q = record {
  pulled = p.pulled ++ q.pulled;
  off = Consumes-then left between after p.pulled q.pulled p.off q.off;
  bound = bound_then c x n m (MAX_DOCUMENT + MAX_AHEAD) old mid left between p q.pulled q.bound;
  gives = λ rest h. subst (λ (at : Place). Gives (c >>= f) at y (place k new rest)) (sym (in_parts n old p.pulled q.pulled rest))
      (gives_then c f (place n old (p.pulled ++ (q.pulled ++ rest))) (place m mid (q.pulled ++ rest)) (place k new rest) x y (let g = p.gives in g (q.pulled ++ rest)) (let g = q.gives in g rest h));
}
