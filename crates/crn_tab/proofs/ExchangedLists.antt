-- The ascending list with one coordinate in place of another.
use Rattle.crn_tab.proofs.Prelude.{◌≡◌, ◌≢◌, ℕ, ◌<◌, ◌⊎◌, inl, inr, List, [], ◌∷◌, sym, ◌∙◌, arith, ◌↔◌, IsIn, IsAbove, IsAscending, Exchanged, eq_or, lt_or, above_ascending, above_lower}

-- the members other than b
record Without (b : ℕ) (xs ys : List ℕ) : Type 0 where
  pub above : (m : ℕ) → IsAbove m xs → IsAbove m ys
  pub ascending : IsAscending ys
  pub members : (k : ℕ) → IsIn k ys ↔ (IsIn k xs × (k ≢ b))

without : (b : ℕ) (xs : List ℕ) → IsAscending xs → (ys : List ℕ) × Without b xs ys
without b [] h = ([], record { above = λ m g. tt; ascending = tt; members = λ k. (λ i. absurd i, λ i. absurd i.0) })
without b (x ∷ xs) h =
    let rest = without b xs (above_ascending x xs h) in
    elim (eq_or x b) as (λ _. (ys : List ℕ) × Without b (x ∷ xs) ys) [
      | inl e ↦ (
        rest.0,
        record {
          above = λ m g. rest.1.above m (above_lower m x xs g.0 g.1);
          ascending = rest.1.ascending;
          members = λ k. (
            λ i. let r = (rest.1.members k).0 i in (inr r.0, r.1),
            λ i. elim i.0 [ inl f ↦ absurd (i.1 (f ∙ e)) | inr g ↦ (rest.1.members k).1 (g, i.1) ],
          );
        },
      )
      | inr ne ↦ (
        x ∷ rest.0,
        record {
          above = λ m g. (g.0, rest.1.above x g.1);
          ascending = rest.1.above x h;
          members = λ k. (
            λ i. elim i as (λ _. IsIn k (x ∷ xs) × (k ≢ b)) [ inl f ↦ (inl f, λ g. ne (sym f ∙ g)) | inr g ↦ let r = (rest.1.members k).0 g in (inr r.0, r.1) ],
            λ i. elim i.0 [ inl f ↦ inl f | inr g ↦ inr ((rest.1.members k).1 (g, i.1)) ],
          );
        },
      )
    ]

-- the members and e
record With (e : ℕ) (xs ys : List ℕ) : Type 0 where
  pub above : (m : ℕ) → m < e → IsAbove m xs → IsAbove m ys
  pub ascending : IsAscending ys
  pub members : (k : ℕ) → IsIn k ys ↔ (IsIn k xs ⊎ (k ≡ e))

with_one : (e : ℕ) (xs : List ℕ) → IsAscending xs → (ys : List ℕ) × With e xs ys
with_one e [] h = (
  e ∷ [],
  record {
    above = λ m lt g. (lt, tt);
    ascending = tt;
    members = λ k. (λ i. elim i [ inl f ↦ inr f | inr g ↦ absurd g ], λ i. elim i [ inl g ↦ absurd g | inr f ↦ inl f ]);
  },
)
with_one e (x ∷ xs) h =
    elim (lt_or e x) as (λ _. (ys : List ℕ) × With e (x ∷ xs) ys) [
      | inl lt ↦ (
        e ∷ (x ∷ xs),
        record {
          above = λ m me g. (me, (lt, g.1));
          ascending = (lt, h);
          members = λ k. (λ i. elim i [ inl f ↦ inr f | inr g ↦ inl g ], λ i. elim i [ inl g ↦ inr g | inr f ↦ inl f ]);
        },
      )
      | inr le ↦ elim (eq_or x e) as (λ _. (ys : List ℕ) × With e (x ∷ xs) ys) [
        | inl same ↦ (
          x ∷ xs,
          record {
            above = λ m me g. g;
            ascending = h;
            members = λ k. (λ i. inl i, λ i. elim i [ inl g ↦ g | inr f ↦ inl (f ∙ sym same) ]);
          },
        )
        | inr ne ↦
            let rest = with_one e xs (above_ascending x xs h) in
            let lt : x < e = omega (arith, le, ne) in (
              x ∷ rest.0,
              record {
                above = λ m me g. (g.0, rest.1.above x lt g.1);
                ascending = rest.1.above x lt h;
                members = λ k. (
                  λ i. elim i as (λ _. IsIn k (x ∷ xs) ⊎ (k ≡ e)) [ inl f ↦ inl (inl f) | inr g ↦ elim ((rest.1.members k).0 g) as (λ _. IsIn k (x ∷ xs) ⊎ (k ≡ e)) [ inl a ↦ inl (inr a) | inr f ↦ inr f ] ],
                  λ i. elim i [ inl g ↦ elim g [ inl f ↦ inl f | inr a ↦ inr ((rest.1.members k).1 (inl a)) ] | inr f ↦ inr ((rest.1.members k).1 (inr f)) ],
                );
              },
            )
      ]
    ]

pub exchanged_list : (basis : List ℕ) (b e : ℕ) → IsAscending basis → (next : List ℕ) × Exchanged basis b e next
exchanged_list basis b e h =
    let first = without b basis h in
    let second = with_one e first.0 first.1.ascending in (
      second.0,
      record {
        ascending = second.1.ascending;
        members = λ k. (
          λ i. elim ((second.1.members k).0 i) as (λ _. (IsIn k basis × (k ≢ b)) ⊎ (k ≡ e)) [ inl g ↦ inl ((first.1.members k).0 g) | inr f ↦ inr f ],
          λ i. elim i [ inl g ↦ (second.1.members k).1 (inl ((first.1.members k).1 g)) | inr f ↦ (second.1.members k).1 (inr f) ],
        );
      },
    )
