-- The least linkage class with several terminal strong classes, in the words of the definitions and of the tests.
use Rattle.crn_defi.proofs.Prelude.{ℕ, List, None, length, MatchOption, IfSome, Net, HasOneTerminalEach, IsFirstSplitClass, Rests, Unknown, Earlier, IsFrom, HaveOneEach, IsFirstSplit, DoLevelsFall, GiveClasses, HaveOneUpTo, IsFirstWithMore}
use Rattle.std.proofs.Common.{Option, Some}
use Rattle.crn_defi.proofs.TerminalCounts.{Known, one_terminal_each}
use Rattle.crn_defi.proofs.OneAnswers.{one_earlier, earlier_of, earlier_gives, split_given}

-- what the search over the linkage classes finds
abbrev pub Finds : List ℕ → List ℕ → List ℕ → ℕ → Option (ℕ × ℕ) → Type 0
Finds labels exits links count found = MatchOption found (HaveOneUpTo labels exits links (length exits) count) (λ f. IsFirstWithMore labels exits links (length exits) count f.0 f.1)

pub split_of : (net : Net) (count : ℕ) (links : List ℕ) (strong_count terminal : ℕ) (labels exits levels : List ℕ) (found : Option (ℕ × ℕ)) → Known net count links strong_count terminal labels exits → DoLevelsFall net labels levels
    → Finds labels exits links count found → MatchOption found (HasOneTerminalEach net) (λ f. IsFirstSplitClass net f.0 f.1)
split_of net count links strong_count terminal labels exits levels None known falls h = one_terminal_each net count links strong_count terminal labels exits known h
split_of net count links strong_count terminal labels exits levels (Some f) known falls h =
    let own = earlier_of count links strong_count terminal labels exits (Unknown (Rests 5)) in
    (split_given net 1 own count links strong_count terminal labels exits levels (Unknown (Rests 5)) f.0 f.1 known falls tt (earlier_gives net count links strong_count terminal labels exits (Unknown (Rests 5)) known) h).answered

pub number_of : (net : Net) (count : ℕ) (links : List ℕ) (strong_count terminal : ℕ) (labels exits levels : List ℕ) (found : Option (ℕ × ℕ)) → Known net count links strong_count terminal labels exits → DoLevelsFall net labels levels
    → Finds labels exits links count found → IfSome found (λ f. IsFrom 2 (length net.complexes) f.1)
number_of net count links strong_count terminal labels exits levels None known falls h = tt
number_of net count links strong_count terminal labels exits levels (Some f) known falls h =
    let own = earlier_of count links strong_count terminal labels exits (Unknown (Rests 5)) in
    (split_given net 1 own count links strong_count terminal labels exits levels (Unknown (Rests 5)) f.0 f.1 known falls tt (earlier_gives net count links strong_count terminal labels exits (Unknown (Rests 5)) known) h).formed.0.head.1.0

pub tests_of : (net : Net) (earlier : Earlier) (count : ℕ) (links : List ℕ) (strong_count terminal : ℕ) (labels exits levels : List ℕ) (found : Option (ℕ × ℕ)) → Known net count links strong_count terminal labels exits → DoLevelsFall net labels levels
    → GiveClasses earlier links count labels exits → Finds labels exits links count found → MatchOption found (HaveOneEach earlier) (λ f. IsFirstSplit earlier f.0 f.1)
tests_of net earlier count links strong_count terminal labels exits levels None known falls g h = one_earlier earlier links count labels exits g h
tests_of net earlier count links strong_count terminal labels exits levels (Some f) known falls g h =
    (split_given net 1 earlier count links strong_count terminal labels exits levels (Unknown (Rests 5)) f.0 f.1 known falls tt g h).valid.0
