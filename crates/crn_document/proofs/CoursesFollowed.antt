-- One course follows another if the other gives all that it gives, fails first wherever it does, and awaits the lines that it does.
use Rattle.crn_document.proofs.Prelude.{◌⊎◌, ◌++◌, ℕ, subst, inl, inr, Ok, Err, Result, SourceSeen, Place, Fault, Course, Give, ◌>>=◌, Gives, test, gives_then, fails_before, fails_then, gives_parts, awaits_before, awaits_then, awaits_parts, Awaits, Reading, CheckStop, StopIs, StepIs, IsLike, fails_parts, step_awaits_like, step_fails_like, step_gives_like}
use Rattle.crn_ctext.specs.Course.{FailsFirst}
use Rattle.crn_reading.specs.declared.fault.CheckStop.TheVariants as stop

-- ---- one course follows another

pub follows_on : {A : Type 0} (c d e : Course A) → IsLike c d → IsLike d e → IsLike c e
follows_on c d e p q = record {
  gives = λ at after y g. let h = p.gives in let k = q.gives in k at after y (h at after y g);
  fails = λ at n code f. let h = p.fails in let k = q.fails in k at n code (h at n code f);
  awaits = λ at w. let h = p.awaits in let k = q.awaits in k at (h at w);
}

-- three courses, bracketed to the right and to the left
pub to_right : {A B C : Type 0} (c : Course A) (f : A → Course B) (g : B → Course C) → IsLike ((c >>= f) >>= g) (c >>= (λ x. f x >>= g))
to_right c f g = record {
  gives = λ at after y h.
      let p = gives_parts (c >>= f) g at after y h in
      let q = gives_parts c f at p.1 p.0 p.2 in
      gives_then c (λ x. f x >>= g) at q.1 after q.0 y q.2 (gives_then (f q.0) g q.1 p.1 after p.0 y q.3 p.3);
  fails = λ at n code h. elim (fails_parts (c >>= f) g at n code h) [
    | inl p ↦ elim (fails_parts c f at n code p) [
      | inl a ↦ fails_before c (λ x. f x >>= g) at n code a
      | inr q ↦ fails_then c (λ x. f x >>= g) at q.1 q.0 n code q.2 (fails_before (f q.0) g q.1 n code q.3)
    ]
    | inr p ↦
        let q = gives_parts c f at p.1 p.0 p.2 in
        fails_then c (λ x. f x >>= g) at q.1 q.0 n code q.2 (fails_then (f q.0) g q.1 p.1 p.0 n code q.3 p.3)
  ];
  awaits = λ at h. elim (awaits_parts (c >>= f) g at h) [
    | inl p ↦ elim (awaits_parts c f at p) [
      | inl a ↦ awaits_before c (λ x. f x >>= g) at a
      | inr q ↦ awaits_then c (λ x. f x >>= g) at q.1 q.0 q.2 (awaits_before (f q.0) g q.1 q.3)
    ]
    | inr p ↦
        let q = gives_parts c f at p.1 p.0 p.2 in
        awaits_then c (λ x. f x >>= g) at q.1 q.0 q.2 (awaits_then (f q.0) g q.1 p.1 p.0 q.3 p.3)
  ];
}

pub to_left : {A B C : Type 0} (c : Course A) (f : A → Course B) (g : B → Course C) → IsLike (c >>= (λ x. f x >>= g)) ((c >>= f) >>= g)
to_left c f g = record {
  gives = λ at after y h.
      let p = gives_parts c (λ x. f x >>= g) at after y h in
      let q = gives_parts (f p.0) g p.1 after y p.3 in
      gives_then (c >>= f) g at q.1 after q.0 y (gives_then c f at p.1 q.1 p.0 q.0 p.2 q.2) q.3;
  fails = λ at n code h. elim (fails_parts c (λ x. f x >>= g) at n code h) [
    | inl p ↦ fails_before (c >>= f) g at n code (fails_before c f at n code p)
    | inr p ↦ elim (fails_parts (f p.0) g p.1 n code p.3) [
      | inl a ↦ fails_before (c >>= f) g at n code (fails_then c f at p.1 p.0 n code p.2 a)
      | inr q ↦ fails_then (c >>= f) g at q.1 q.0 n code (gives_then c f at p.1 q.1 p.0 q.0 p.2 q.2) q.3
    ]
  ];
  awaits = λ at h. elim (awaits_parts c (λ x. f x >>= g) at h) [
    | inl p ↦ awaits_before (c >>= f) g at (awaits_before c f at p)
    | inr p ↦ elim (awaits_parts (f p.0) g p.1 p.3) [
      | inl a ↦ awaits_before (c >>= f) g at (awaits_then c f at p.1 p.0 p.2 a)
      | inr q ↦ awaits_then (c >>= f) g at q.1 q.0 (gives_then c f at p.1 q.1 p.0 q.0 p.2 q.2) q.3
    ]
  ];
}

-- nothing after a course
pub none_after : {A : Type 0} (c : Course A) → IsLike (c >>= (λ x. Give x)) c
unfolding Gives FailsFirst Awaits
none_after {A} c = record {
  gives = λ at after y h. let p = gives_parts c (λ x. Give x) at after y h in subst (λ (x : A). Gives c at x after) p.3.0 (subst (λ (m : Place). Gives c at p.0 m) p.3.1 p.2);
  fails = λ at n code h. elim (fails_parts c (λ x. Give x) at n code h) [
    | inl p ↦ p
    | inr p ↦ absurd p.3
  ];
  awaits = λ at h. elim (awaits_parts c (λ x. Give x) at h) [
    | inl p ↦ p
    | inr p ↦ absurd p.3
  ];
}

-- a test that holds
pub test_holds : {A : Type 0} (n : ℕ) (fault : Fault) (P : Type 0) (d : Course A) → P → IsLike (test n fault P >>= (λ x. d)) d
unfolding Gives FailsFirst Awaits
test_holds n fault P d p = record {
  gives = λ at after y g. g.2;
  fails = λ at m c f. elim f [
    | inl none ↦ absurd (let h = none.2 in h tt p)
    | inr later ↦ later.2
  ];
  awaits = λ at w. w.2;
}

-- a test that does not, of which another does not hold either
pub test_breaks : {A : Type 0} (n : ℕ) (fault : Fault) (P Q : Type 0) (d : Course A) (e : Course A) → (P → ⊥) → (Q → ⊥) → IsLike (test n fault P >>= (λ x. d)) (test n fault Q >>= (λ x. e))
unfolding Gives FailsFirst Awaits
test_breaks n fault P Q d e p q = record {
  gives = λ at after y g. absurd (p g.1);
  fails = λ at m c f. elim f [
    | inl none ↦ inl (none.0, none.1, λ x h. q h)
    | inr later ↦ absurd (p later.1)
  ];
  awaits = λ at w. absurd (p w.1);
}

-- ---- steps

pub stop_follows : {A : Type 0} (c d : Course A) (e : CheckStop) (old : Reading) (before now : SourceSeen) → IsLike c d → StopIs c e old before now → StopIs d e old before now
stop_follows c d (stop.Rejected code line) old before now w p = (step_fails_like c d w old.line old.lines before.left now.left line code p.0, p.1)
stop_follows c d stop.Failed old before now w p = (step_awaits_like c d w old.line old.lines before.left now.left p.0, p.1, p.2)
stop_follows c d stop.NoMemory old before now w p = p

pub step_follows : {A T : Type 0} (c d : Course A) (Says : T → A → Type 0) (result : Result T CheckStop) (old new : Reading) (before now : SourceSeen) → IsLike c d → StepIs c Says result old new before now → StepIs d Says result old new before now
step_follows c d Says (Ok t) old new before now w p = (p.0, p.1, step_gives_like c d w p.0 old.line new.line old.lines new.lines before.left now.left p.2, p.3)
step_follows c d Says (Err e) old new before now w p = stop_follows c d e old before now w p
