-- For the contracts of private functions alone.
-- Which question has which place, and what a report reads of a verdict.
-- Source: this project's own.
-- Shapes: places of questions count from 0, numbers in verdicts from 1.
use Rattle.std.specs.Prelude.{◌≡◌, ◌≤◌, ℕ, length, slice_index_or}
use Rattle.std.specs.List.{AllByRecursion}
use Rattle.crn_vec.specs.Network.{Net}
use Rattle.crn_cert.specs.Questions.{Question, Q1, questions}
use Rattle.crn_cert.specs.Ranges.{IsFrom, AreFree}
use Rattle.crn_cert.specs.declared.answer.Verdict.{Verdict}
use Rattle.crn_cert.specs.declared.answer.Verdict.TheVariants.{Classes, Strong, NoReaction, NoCycle, NoPair}

-- the question at a place
abbrev pub question_at : ℕ → Question
question_at place = slice_index_or questions place Q1

-- what a report reads of a verdict is inside its lists and the network
abbrev pub IsReadable : Net → Verdict → Type 0
IsReadable net (Classes count label) = length label.list ≡ length net.complexes
IsReadable net (Strong count terminal label exit) = (length label.list ≡ length net.complexes)
    × (count ≤ length exit.list)
IsReadable net (NoReaction reaction) = IsFrom 1 (length net.reactions) reaction
IsReadable net (NoCycle reaction walk) = AllByRecursion (IsFrom 1 (length net.complexes)) walk.list
IsReadable net (NoPair alpha weights) = AreFree (length net.reactions) weights.list
IsReadable net verdict = Unit {0}
