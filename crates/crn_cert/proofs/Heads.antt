-- The form and the tests of a head look at no list whose records come later.
use Rattle.crn_cert.proofs.Prelude.{◌≡◌, List, refl, sym, ap, subst, Net, Verdict, Unknown, Earlier, Question, Q3, head_tests, HeadKind, Datum, sizes_of, FitsHead, head_of, HeadMayBe, Test, AllHold, FailsFirst, bare, HeadsDependOnNoLists}

pub tests_by_heads : (net : Net) (earlier : Earlier) (q : Question) (v : Verdict) → head_tests net earlier q v ≡ head_tests net earlier q (bare v)
tests_by_heads net earlier Q3 (Unknown gap) = refl
tests_by_heads net earlier q (Unknown gap) = refl
tests_by_heads net earlier q v = refl

heads_alike : (v : Verdict) → head_of v ≡ head_of (bare v)
heads_alike (Unknown gap) = refl
heads_alike v = refl

pub forms_by_heads : (net : Net) (earlier : Earlier) (q : Question) (v : Verdict) → HeadMayBe net earlier q v ≡ HeadMayBe net earlier q (bare v)
forms_by_heads net earlier q v = ap (λ (h : HeadKind × List Datum). FitsHead q (sizes_of net earlier) h.0 h.1) (heads_alike v)

pub heads_depend_on_no_lists : HeadsDependOnNoLists
heads_depend_on_no_lists net earlier q v =
    let e : head_tests net earlier q v ≡ head_tests net earlier q (bare v) = tests_by_heads net earlier q v in
    let f : HeadMayBe net earlier q v ≡ HeadMayBe net earlier q (bare v) = forms_by_heads net earlier q v in
    record {
      form = (λ h. subst (λ (t : Type 0). t) f h, λ h. subst (λ (t : Type 0). t) (sym f) h);
      hold = (λ h. subst AllHold e h, λ h. subst AllHold (sym e) h);
      fails = λ part code. (λ h. subst (λ (ts : List Test). FailsFirst ts part code) e h, λ h. subst (λ (ts : List Test). FailsFirst ts part code) (sym e) h);
    }
