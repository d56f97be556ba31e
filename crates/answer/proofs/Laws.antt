-- No refusal has the number of an answer that is done, and what an answer's number says. Assumes nothing.
use mathlib.Core.Path.{◌≡◌, refl, ap, ◌∙◌}
use mathlib.Core.Bool.{false}
use Prim.Native.Nat.{ℕ}
use borrow.Author.Tests.{eqb-false}
use lib.Dec.{eqb}
use Rattle.std.specs.Prelude.{Result, Ok, Err, IsErrAnd}
use Rattle.answer.specs.declared.Refusal.{Refusal}
use Rattle.answer.specs.declared.Refusal.TheVariants.{WindowNotAllowed, RegisterNotModelled, NotRunning, FrameLength, FrameCheck, Address, ChainFault, NotGranted, OutputShort, Allowance, LentLength, SendLength, NoDescriptor, AlreadyGranted, EngineRuns, Burst, BlockLength, BlockNumber, BlockCheck, UsedLength, ZeroFill, Event, EventRoom, AnswersShort, EventList, TraceWindow, Blocks, BlockRoom, FrameList, CaptureRoom, CaptureHeader, Magic, Version, LinkType, RecordCut, RecordLengths, ImportRoom}
use Rattle.answer.specs.Refusals.{refusal_number, number_of}

pub not_done : (refusal : Refusal) → eqb (refusal_number refusal) 0 ≡ false
not_done WindowNotAllowed = refl
not_done RegisterNotModelled = refl
not_done NotRunning = refl
not_done FrameLength = refl
not_done FrameCheck = refl
not_done Address = refl
not_done ChainFault = refl
not_done NotGranted = refl
not_done OutputShort = refl
not_done Allowance = refl
not_done LentLength = refl
not_done SendLength = refl
not_done NoDescriptor = refl
not_done AlreadyGranted = refl
not_done EngineRuns = refl
not_done Burst = refl
not_done BlockLength = refl
not_done BlockNumber = refl
not_done BlockCheck = refl
not_done UsedLength = refl
not_done ZeroFill = refl
not_done Event = refl
not_done EventRoom = refl
not_done AnswersShort = refl
not_done EventList = refl
not_done TraceWindow = refl
not_done Blocks = refl
not_done BlockRoom = refl
not_done FrameList = refl
not_done CaptureRoom = refl
not_done CaptureHeader = refl
not_done Magic = refl
not_done Version = refl
not_done LinkType = refl
not_done RecordCut = refl
not_done RecordLengths = refl
not_done ImportRoom = refl

pub not_zero : (refusal : Refusal) → refusal_number refusal ≡ 0 → ⊥
not_zero refusal = eqb-false (refusal_number refusal) 0 (not_done refusal)

-- what `?` passes on has the number of its refusal
pub passed_on : {T : Type 0} (answer : Result T Refusal) (refusal : Refusal) (n : ℕ)
    → IsErrAnd answer (λ f. f ≡ refusal) → refusal_number refusal ≡ n → number_of answer ≡ n
passed_on (Ok _) refusal n e h = absurd e
passed_on (Err f) refusal n e h = ap refusal_number e ∙ h
