-- From what clap reads to the command that the words say, and back.
use Rattle.crn_run.proofs.Prelude.{◌≡◌, ◌≤◌, ℕ, true, false, arith, List, [], ◌∷◌, Option, Some, None, drop, refl, sym, ap, ap₂, ◌∙◌, subst, inl, inr, codes, MatchOption, if◌then◌else◌, list_any, Text, HasKind, IsAmong, Kinds, App, HasMatchesOf, fault_of, first_value, found_of, is_simple, is_simple_and_free, kind_of, matches_of, Error, OutOfMemory, ArgMatches, clap_on_literals, first_value-rows, Gives, IsRead, Means, MeansBudget, MeansNumber, MeansPart, crnt_app, is_two_dashes, bytes_eq, digits_value, DEFAULT_BUDGET, MAX_BUDGET, MAX_SAMPLE, IsCommand, Say, SayPlain, part_name, Command, Report, Certify, Check, Sample, Prove, Verify, PartName, Persist, Robust, Decomposition, Endo}
use Rattle.clap.specs.Words.{first_of}
use Rattle.crn_run.proofs.ClapReads.{Asked, SayAsked, words_of}
use Rattle.crn_run.proofs.ClapForms.{IsPlain, IsPlainIfSome, IsReadAs, budget_is_read, certify_plain, check_plain, digits_are, name_is_read, part_plain, prove_plain, read_is_asked, report_plain, sample_plain, verify_plain}

-- ---- the clauses of clap

-- the command is one of which clap's clauses give the faults and the matches
pub crnt_is_free : is_simple_and_free crnt_app ≡ true
unfolding clap_on_literals crnt_app
crnt_is_free = refl

crnt_is_simple : is_simple crnt_app ≡ true
unfolding clap_on_literals crnt_app
crnt_is_simple = refl

pub given : (a : App) (words : List Text) (m : ArgMatches) (command count budget : Option Text) → a ≡ crnt_app → HasMatchesOf a words m
    → command ≡ first_value (found_of m) (codes "command") → count ≡ first_value (found_of m) (codes "count") → budget ≡ first_value (found_of m) (codes "budget")
    → Gives words command count budget
unfolding Gives
given a words m command count budget is has first second third =
    (of_id (codes "command") command first, of_id (codes "count") count second, of_id (codes "budget") budget third)
  where
    of_id : (id : Text) (o : Option Text) → o ≡ first_value (found_of m) id → first_of id (matches_of crnt_app words) ≡ o
    of_id id o e =
        let rows = (has (ap is_simple is ∙ crnt_is_simple)).0 in
        sym (e ∙ first_value-rows (found_of m) id ∙ ap (first_of id) (rows ∙ ap (λ (b : App). matches_of b words) is))

pub read_of : (a : App) (words : List Text) → a ≡ crnt_app → fault_of a words ≡ [] → IsRead words
unfolding IsRead
read_of a words is none = sym (ap (λ (b : App). fault_of b words) is) ∙ none

-- an error for another cause than memory
pub unread_of : (a : App) (words : List Text) (e : Error) → a ≡ crnt_app → HasKind (fault_of a words) e → (kind_of e ≡ OutOfMemory → ⊥) → IsRead words → ⊥
unfolding IsRead
unread_of a words e is (inl memory) other read = other memory
unread_of a words e is (inr among) other read =
    subst (λ (ks : Kinds). IsAmong (kind_of e) ks) (ap (λ (b : App). fault_of b words) is ∙ read) among

-- ---- the command

-- a name and a count, with a word that writes this budget
abbrev named : Text → Option Text → ℕ → Asked
named name count n = record { name = name; count = count; budget_is = λ o. MeansBudget o n }

-- a name alone
abbrev alone : Text → Asked
alone name = record { name = name; count = None; budget_is = λ o. o ≡ None }

values_asked : (ask : Asked) (words : List Text) (command count budget : Option Text) → list_any is_two_dashes (drop 1 words) ≡ false → IsRead words
    → Gives words command count budget → command ≡ Some ask.name → count ≡ ask.count → ask.budget_is budget → (program : Text) × (rest : List Text) × (words ≡ program ∷ rest) × SayAsked ask rest
values_asked ask words command count budget plain read gives is counted means =
    read_is_asked words budget ask plain read (subst (λ (o : Option Text). Gives words o ask.count budget) is (subst (λ (o : Option Text). Gives words command o budget) counted gives)) means

-- a name and a count alone
abbrev counted : Text → Text → Asked
counted name count = record { name = name; count = Some count; budget_is = λ o. o ≡ None }

counted_said : (name count : Text) (words : List Text) → SayAsked (counted name count) words → words ≡ name ∷ count ∷ []
counted_said name count words (inl (e, none)) = e
counted_said name count words (inr (v, bad, form)) = absurd (let e : Some v ≡ None = bad in cc)

alone_said : (name : Text) (words : List Text) → SayAsked (alone name) words → words ≡ name ∷ []
alone_said name words (inl (e, none)) = e
alone_said name words (inr (v, bad, form)) = absurd (let e : Some v ≡ None = bad in cc)

sample_said : (number budget : ℕ) (words : List Text) (command count word : Option Text) → list_any is_two_dashes (drop 1 words) ≡ false → IsRead words → Gives words command count word
    → command ≡ Some (codes "sample") → MeansNumber count number → MeansBudget word budget → IsCommand words (Sample number budget)
sample_said number budget words command None word plain read gives is writes means = absurd writes
sample_said number budget words command (Some k) word plain read gives is writes means =
    let (program, rest, e, says) = values_asked (named (codes "sample") (Some k) budget) words command (Some k) word plain read gives is refl means in
    (program, rest, e, (k, writes, says))

prove_said : (part : PartName) (budget : ℕ) (words : List Text) (command count word : Option Text) → list_any is_two_dashes (drop 1 words) ≡ false → IsRead words → Gives words command count word
    → command ≡ Some (codes "prove") → MeansPart count part → MeansBudget word budget → IsCommand words (Prove part budget)
prove_said part budget words command None word plain read gives is names means = absurd names
prove_said part budget words command (Some k) word plain read gives is names means =
    let (program, rest, e, says) = values_asked (named (codes "prove") (Some k) budget) words command (Some k) word plain read gives is refl means in
    (program, rest, e, subst (λ (name : Text). SayPlain (codes "prove" ∷ name ∷ []) rest budget) names says)

verify_said : (part : PartName) (words : List Text) (command count word : Option Text) → list_any is_two_dashes (drop 1 words) ≡ false → IsRead words → Gives words command count word
    → command ≡ Some (codes "verify") → MeansPart count part → word ≡ None → IsCommand words (Verify part)
verify_said part words command None word plain read gives is names means = absurd names
verify_said part words command (Some k) word plain read gives is names means =
    let (program, rest, e, says) = values_asked (counted (codes "verify") k) words command (Some k) word plain read gives is refl means in
    (program, rest, e, counted_said (codes "verify") k rest says ∙ ap (λ (name : Text). codes "verify" ∷ name ∷ []) names)

values_say : (words : List Text) (command count budget : Option Text) (c : Command) → list_any is_two_dashes (drop 1 words) ≡ false → IsRead words
    → Gives words command count budget → Means command count budget c → IsCommand words c
values_say words command count budget (Report n) plain read gives (is, none, means) = values_asked (named (codes "report") None n) words command count budget plain read gives is none means
values_say words command count budget (Certify n) plain read gives (is, none, means) = values_asked (named (codes "certify") None n) words command count budget plain read gives is none means
values_say words command count budget Check plain read gives (is, none, means) =
    let (program, rest, e, says) = values_asked (alone (codes "check")) words command count budget plain read gives is none means in
    (program, rest, e, alone_said (codes "check") rest says)
values_say words command count budget (Sample k n) plain read gives (is, writes, means) = sample_said k n words command count budget plain read gives is writes means
values_say words command count budget (Prove part n) plain read gives (is, names, means) = prove_said part n words command count budget plain read gives is names means
values_say words command count budget (Verify part) plain read gives (is, names, means) = verify_said part words command count budget plain read gives is names means

-- the words of a command with a budget, as clap reads them
plain_read : (name program : Text) (count : Option Text) (words : List Text) (n : ℕ) → IsPlain name → IsPlainIfSome count → SayPlain (words_of name count) words n → (b : Option Text) × IsReadAs name count program words b × MeansBudget b n
plain_read name program count words n is counted (inl (e, d)) = (None, rw e (name_is_read name program count is counted), d)
plain_read name program count words n is counted (inr (text, writes, form)) = (Some text, budget_is_read name program text count words is counted writes.digits form, writes)

abbrev name_of : Command → Text
name_of (Report n) = codes "report"
name_of (Certify n) = codes "certify"
name_of Check = codes "check"
name_of (Sample k n) = codes "sample"
name_of (Prove part n) = codes "prove"
name_of (Verify part) = codes "verify"

-- the words of a command, as clap reads them
said_read : (program : Text) (words : List Text) (c : Command) → Say words c → (o : Option Text) × (b : Option Text) × IsReadAs (name_of c) o program words b × Means (Some (name_of c)) o b c
said_read program words (Report n) says = let (b, r, means) = plain_read (codes "report") program None words n report_plain tt says in (None, b, r, (refl, refl, means))
said_read program words (Certify n) says = let (b, r, means) = plain_read (codes "certify") program None words n certify_plain tt says in (None, b, r, (refl, refl, means))
said_read program words Check e = (None, None, rw e (name_is_read (codes "check") program None check_plain tt), (refl, refl, refl))
said_read program words (Sample number n) (k, writes, says) = let (b, r, means) = plain_read (codes "sample") program (Some k) words n sample_plain (digits_are k writes.digits) says in (Some k, b, r, (refl, writes, means))
said_read program words (Prove part n) says = let (b, r, means) = plain_read (codes "prove") program (Some (part_name part)) words n prove_plain (part_plain part) says in (Some (part_name part), b, r, (refl, refl, means))
said_read program words (Verify part) e = (Some (part_name part), None, rw e (name_is_read (codes "verify") program (Some (part_name part)) verify_plain (part_plain part)), (refl, refl, refl))

-- words give their values once
gives_one : (words : List Text) (command count budget first second third : Option Text) (c : Command) → Gives words command count budget → Gives words first second third
    → Means first second third c → Means command count budget c
unfolding Gives
gives_one words command count budget first second third c a b means =
    subst (λ (o : Option Text). Means o count budget c) (sym b.0 ∙ a.0)
    (subst (λ (o : Option Text). Means first o budget c) (sym b.1 ∙ a.1)
    (subst (λ (o : Option Text). Means first second o c) (sym b.2 ∙ a.2) means))

said_values : (words : List Text) (command count budget : Option Text) (c : Command) → Gives words command count budget → IsCommand words c → Means command count budget c
said_values words command count budget c gives (program, rest, e, says) =
    let (o, b, r, means) = said_read program rest c says in
    let back : Gives words (Some (name_of c)) o b = rw e r.2 in
    gives_one words command count budget (Some (name_of c)) o b c gives back means

pub said_is_read : (words : List Text) (c : Command) → IsCommand words c → (list_any is_two_dashes (drop 1 words) ≡ false) × IsRead words
said_is_read words c (program, rest, e, says) =
    let (o, b, r, means) = said_read program rest c says in
    rw e (r.0, r.1)

-- the command that the values mean is the one that the words say
pub meant_is_said : (r : Option Command) (words : List Text) (command count budget : Option Text) → list_any is_two_dashes (drop 1 words) ≡ false → IsRead words
    → Gives words command count budget → MatchOption r ((c : Command) → Means command count budget c → ⊥) (Means command count budget)
    → MatchOption r ((c : Command) → IsCommand words c → ⊥) (λ c. IsCommand words c)
meant_is_said None words command count budget plain read gives none = λ c is. none c (said_values words command count budget c gives is)
meant_is_said (Some c) words command count budget plain read gives means = values_say words command count budget c plain read gives means

-- ---- one command

-- the values of words, if they are those of a command
abbrev budget_in : Option Text → ℕ
budget_in None = DEFAULT_BUDGET
budget_in (Some text) = digits_value 10 text

abbrev number_in : Option Text → ℕ
number_in None = 0
number_in (Some text) = digits_value 10 text

abbrev part_in : Option Text → PartName
part_in None = Persist
part_in (Some name) = if bytes_eq name (codes "robust") then Robust else (
    if bytes_eq name (codes "parts") then Decomposition else (
    if bytes_eq name (codes "endo") then Endo else Persist))

-- the command of this name with these values
abbrev command_in : Text → Option Text → Option Text → Command
command_in name count word =
    if bytes_eq name (codes "report") then Report (budget_in word) else (
    if bytes_eq name (codes "certify") then Certify (budget_in word) else (
    if bytes_eq name (codes "check") then Check else (
    if bytes_eq name (codes "sample") then Sample (number_in count) (budget_in word) else (
    if bytes_eq name (codes "prove") then Prove (part_in count) (budget_in word) else Verify (part_in count)))))

budget_is : (word : Option Text) (n : ℕ) → MeansBudget word n → n ≡ budget_in word
budget_is None n means = means
budget_is (Some text) n means = sym means.value

number_is : (count : Option Text) (n : ℕ) → MeansNumber count n → n ≡ number_in count
number_is None n means = absurd means
number_is (Some text) n means = sym means.value

part_is : (count : Option Text) (part : PartName) → MeansPart count part → part ≡ part_in count
part_is None part means = absurd means
part_is (Some text) Persist means = rw means refl
part_is (Some text) Robust means = rw means refl
part_is (Some text) Decomposition means = rw means refl
part_is (Some text) Endo means = rw means refl

means_name : (command count word : Option Text) (c : Command) → Means command count word c → command ≡ Some (name_of c)
means_name command count word (Report n) means = means.0
means_name command count word (Certify n) means = means.0
means_name command count word Check means = means.0
means_name command count word (Sample k n) means = means.0
means_name command count word (Prove part n) means = means.0
means_name command count word (Verify part) means = means.0

means_command : (command count word : Option Text) (c : Command) → Means command count word c → c ≡ command_in (name_of c) count word
means_command command count word (Report n) means = ap Report (budget_is word n means.2)
means_command command count word (Certify n) means = ap Certify (budget_is word n means.2)
means_command command count word Check means = refl
means_command command count word (Sample k n) means = ap₂ Sample (number_is count k means.1) (budget_is word n means.2)
means_command command count word (Prove part n) means = ap₂ Prove (part_is count part means.1) (budget_is word n means.2)
means_command command count word (Verify part) means = ap Verify (part_is count part means.1)

means_one : (command count word : Option Text) (c d : Command) → Means command count word c → Means command count word d → c ≡ d
means_one command count word c d p q =
    let first = means_name command count word c p in
    let second = means_name command count word d q in
    let one : Some (name_of c) ≡ Some (name_of d) = sym first ∙ second in
    let name : name_of c ≡ name_of d = cc in
    means_command command count word c p ∙ ap (λ (name : Text). command_in name count word) name ∙ sym (means_command command count word d q)

pub one_command : (words : List Text) (c d : Command) → IsCommand words c → IsCommand words d → c ≡ d
one_command words c d (program, rest, e, says) other =
    let (o, b, r, means) = said_read program rest c says in
    let back : Gives words (Some (name_of c)) o b = rw e r.2 in
    means_one (Some (name_of c)) o b c d means (said_values words (Some (name_of c)) o b d back other)

-- words that say another command do not say `sample`
pub report_is_no_sample : (words : List Text) (n number budget : ℕ) → IsCommand words (Report n) → IsCommand words (Sample number budget) → ⊥
report_is_no_sample words n number budget p q = let e = one_command words (Report n) (Sample number budget) p q in cc

pub certify_is_no_sample : (words : List Text) (n number budget : ℕ) → IsCommand words (Certify n) → IsCommand words (Sample number budget) → ⊥
certify_is_no_sample words n number budget p q = let e = one_command words (Certify n) (Sample number budget) p q in cc

pub check_is_no_sample : (words : List Text) (number budget : ℕ) → IsCommand words Check → IsCommand words (Sample number budget) → ⊥
check_is_no_sample words number budget p q = let e = one_command words Check (Sample number budget) p q in cc

pub prove_is_no_sample : (words : List Text) (part : PartName) (n number budget : ℕ) → IsCommand words (Prove part n) → IsCommand words (Sample number budget) → ⊥
prove_is_no_sample words part n number budget p q = let e = one_command words (Prove part n) (Sample number budget) p q in cc

pub verify_is_no_sample : (words : List Text) (part : PartName) (number budget : ℕ) → IsCommand words (Verify part) → IsCommand words (Sample number budget) → ⊥
verify_is_no_sample words part number budget p q = let e = one_command words (Verify part) (Sample number budget) p q in cc

-- ---- numbers

budget_bounds : (plain words : List Text) (n : ℕ) → SayPlain plain words n → (1 ≤ n) × (n ≤ MAX_BUDGET)
budget_bounds plain words n (inl (e, d)) = (omega (arith, d), omega (arith, d))
budget_bounds plain words n (inr (text, writes, form)) = (writes.least, writes.most)

pub report_bounds : (words : List Text) (n : ℕ) → IsCommand words (Report n) → (1 ≤ n) × (n ≤ MAX_BUDGET)
report_bounds words n (program, rest, e, says) = budget_bounds (codes "report" ∷ []) rest n says

pub certify_bounds : (words : List Text) (n : ℕ) → IsCommand words (Certify n) → (1 ≤ n) × (n ≤ MAX_BUDGET)
certify_bounds words n (program, rest, e, says) = budget_bounds (codes "certify" ∷ []) rest n says

pub prove_bounds : (words : List Text) (part : PartName) (n : ℕ) → IsCommand words (Prove part n) → (1 ≤ n) × (n ≤ MAX_BUDGET)
prove_bounds words part n (program, rest, e, says) = budget_bounds (codes "prove" ∷ part_name part ∷ []) rest n says

pub sample_bounds : (words : List Text) (k n : ℕ) → IsCommand words (Sample k n) → ((1 ≤ k) × (k ≤ MAX_SAMPLE)) × ((1 ≤ n) × (n ≤ MAX_BUDGET))
sample_bounds words k n (program, rest, e, (text, writes, says)) = ((writes.least, writes.most), budget_bounds (codes "sample" ∷ text ∷ []) rest n says)
