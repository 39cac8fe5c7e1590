-- Histories that grow by one call. Assumes nothing.
use Rattle.std.proofs.Common.{◌≡◌, ◌<◌, List, [], ◌∷◌, ◌++◌, length, map, get_or, sym, refl, ◌∙◌, arith}
use Rattle.runs.specs.Said.{said}
use Rattle.runs.specs.Histories.{Event}
use Rattle.runs.specs.Runs.{happened}
use Rattle.runs.specs.declared.answer.Answer.{Answer}
use Rattle.runs.specs.declared.call.RulerCall.{RulerCall}

-- what the calls that have an answer came to
abbrev pub so_far : {L C : Type 0} → (C → RulerCall) → List C → List (Answer L) → List (Event L)
so_far as_call calls answers = happened (map as_call calls) (map said answers) []

pub happened_none : {L : Type 0} (calls : List RulerCall) (before : List (Event L)) →
    happened calls [] before ≡ before
happened_none [] before = refl
happened_none (c ∷ calls) before = refl

happened_next : {L C : Type 0} (as_call : C → RulerCall) (calls : List C)
    (answers : List (Answer L)) (call : C) (answer : Answer L) (before : List (Event L)) →
    length answers < length calls → call ≡ get_or calls (length answers) call →
    happened (map as_call calls) (map said (answers ++ answer ∷ [])) before
    ≡ record { call = as_call call; answer = said answer } ∷ happened (map as_call calls)
    (map said answers) before
happened_next as_call [] answers call answer before lt is = absurd (omega arith)
happened_next as_call (c ∷ calls) [] call answer before lt is =
    happened_none (map as_call calls) (record { call = as_call c; answer = said answer } ∷ before)
    ∙ λ k. record { call = as_call (sym is k); answer = said answer } ∷ before
happened_next as_call (c ∷ calls) (a ∷ answers) call answer before lt is =
    happened_next as_call calls answers call answer
    (record { call = as_call c; answer = said a } ∷ before) (omega arith) is

-- one answer more
pub grown : {L C : Type 0} (as_call : C → RulerCall) (calls : List C) (answers : List (Answer L))
    (call : C) (answer : Answer L) → length answers < length calls →
    call ≡ get_or calls (length answers) call → so_far as_call calls (answers ++ answer ∷ [])
    ≡ record { call = as_call call; answer = said answer } ∷ so_far as_call calls answers
grown as_call calls answers call answer = happened_next as_call calls answers call answer []
