-- The lines that answer a script.
use Rattle.std.specs.Prelude.{ℕ, ◌+◌, List, [], ◌∷◌, ◌++◌, decimal, codes}
use Rattle.std.specs.Global.{Vec}
use Rattle.std.specs.List.{flat_map}
use Rattle.lt_text.specs.Compose.{spaced}
use Rattle.lt_text.specs.Replies.{reply_words}
use Rattle.lt_runner.specs.declared.answer.LineAnswer.{LineAnswer}
use Rattle.lt_runner.specs.declared.answer.LineAnswer.TheVariants.{Request, Busy, Proceed, Rescan, WaitingAt, TooLongAt, Let, Waiting, Idle, Turns, Replied, Stranger, Done, NoRequest, Refused}
use Rattle.lt_runner.specs.declared.answer.Refusal.{Refusal}
use Rattle.lt_runner.specs.declared.answer.Refusal.TheVariants.{NoKeys, TooManyKeys, NumbersOut, Leaving, StillWaiting, WaitsOut, HistoryFull}
use Rattle.lt_runner.specs.declared.answer.AnswerLine.{AnswerLine}

abbrev pub refusal_word : Refusal → List ℕ
refusal_word NoKeys = codes "NoKeys"
refusal_word TooManyKeys = codes "TooManyKeys"
refusal_word NumbersOut = codes "NumbersOut"
refusal_word Leaving = codes "Leaving"
refusal_word StillWaiting = codes "StillWaiting"
refusal_word WaitsOut = codes "WaitsOut"
refusal_word HistoryFull = codes "HistoryFull"

-- The words of an answer.
abbrev pub answer_words : LineAnswer → List (List ℕ)
answer_words (Request n) = codes "request" ∷ decimal n ∷ []
answer_words Busy = codes "busy" ∷ []
answer_words Proceed = codes "proceed" ∷ []
answer_words Rescan = codes "rescan" ∷ []
answer_words (WaitingAt key) = codes "waiting" ∷ key ∷ []
answer_words (TooLongAt key) = codes "long" ∷ key ∷ []
answer_words Let = codes "let" ∷ []
answer_words Waiting = codes "waiting" ∷ []
answer_words Idle = codes "idle" ∷ []
answer_words Turns = codes "turns" ∷ []
answer_words (Replied reply) = reply_words reply
answer_words Stranger = codes "stranger" ∷ []
answer_words Done = codes "done" ∷ []
answer_words NoRequest = codes "none" ∷ []
answer_words (Refused refusal) = codes "refused" ∷ refusal_word refusal ∷ []

-- The line of an answer, with its line end: the pass, the number of the script's line, and the words of the answer,
-- separated by single spaces.
abbrev pub answer_line_text : ℕ → AnswerLine → List ℕ
answer_line_text pass a = decimal pass ++ spaced (decimal a.line ∷ answer_words a.answer) ++ 10 ∷ []

-- The lines of one pass, in their order.
abbrev pub pass_text : ℕ → List AnswerLine → List ℕ
pass_text pass answers = flat_map (answer_line_text pass) answers

-- The lines of all passes from this one on, one pass after the other.
abbrev pub texts_from : ℕ → List (Vec AnswerLine) → List ℕ
texts_from pass [] = []
texts_from pass (p ∷ ps) = pass_text pass p.items ++ texts_from (pass + 1) ps

-- The lines of all passes.
abbrev pub answers_text : List (Vec AnswerLine) → List ℕ
answers_text passes = texts_from 1 passes
