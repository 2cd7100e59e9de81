use Rattle.std.proofs.Common.{◌≡◌, ◌⊎◌, ℕ, List, Bool, true, false, Some, inl, inr, refl, subst, ◌∙◌}
use Rattle.np_node.proofs.KeptLemmas.{kept-utf8}
use Rattle.np_node.specs.Comparing.{AnswersSame}
use Rattle.np_node.specs.Nodes.{State, state_of, IsKept}
use Rattle.np_c.specs.NodeReading.{told_equal, told_lack, IsSameAnswer}
use Rattle.np_c.specs.declared.answers.Answer.{Answer}
use Rattle.np_c.specs.inside.FaultAnswers.{told_answer}
use Rattle.np_c.proofs.node_reading.tell_same.Goals as goal

-- the answer to a question, in the words of the header
told_both : (b : Bool) → told_answer b ≡ told_equal b
told_both true = refl
told_both false = refl

-- one of the two isn't kept
lacks : (node : State) (left right first : List ℕ) (a : Answer) → first ≡ left → ¬ IsKept node.entries right
    → ((a ≡ told_lack 1) × (¬ IsKept node.entries first)) ⊎ ((a ≡ told_lack 2) × IsKept node.entries first) → IsSameAnswer node left right a
lacks node left right first a is none (inl (told, not)) = record { how = inl (told, subst (λ s. ¬ IsKept node.entries s) is not) }
lacks node left right first a is none (inr (told, kept)) = record { how = inr (inl (told, subst (IsKept node.entries) is kept, none)) }

pub returns-in_default : goal.returns-in_default
returns-in_default g c =
    let node = state_of g.T.NormTable.model c.args.node.now in
    record { how = inl (c.of_lack.ensures, λ kept. c.in_default.ensures.none (kept-utf8 node c.requires c.args.left.now kept)) }

pub returns-in_default-whole_text : goal.returns-in_default-whole_text
returns-in_default-whole_text g c =
    let node = state_of g.T.NormTable.model c.args.node.now in
    lacks node c.args.left.now c.args.right.now c.in-Some.first.now c.tell_lack.result c.in-Some.ensures.some
    (λ kept. c.in_default-whole_text.ensures.none (kept-utf8 node c.requires c.args.right.now kept)) c.tell_lack.ensures

pub returns-in-Some-same : goal.returns-in-Some-same
returns-in-Some-same g c =
    let node = state_of g.T.NormTable.model c.args.node.now in
    let equal = c.in-Some-same.equal in
    let first : AnswersSame node c.args.left.now c.in-Some-whole_text.second.now (Some equal) =
    subst (λ (s : List ℕ). AnswersSame node s c.in-Some-whole_text.second.now (Some equal)) c.in-Some.ensures.some c.in-Some-same.ensures
    in
    record {
      how = inr (inr (
        equal,
        subst (λ (s : List ℕ). AnswersSame node c.args.left.now s (Some equal)) c.in-Some-whole_text.ensures.some first,
        c.answer_of_truth.ensures ∙ told_both equal,
      ));
    }
