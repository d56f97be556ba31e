-- 01, "Numbered results"; from 16 on 02: the numbers of the refusals, and of an answer that may be one. Assumes nothing.
use Rattle.std.specs.Prelude.{ℕ, Result, Ok, Err}
use Rattle.answer.specs.declared.Refusal.{Refusal}
use Rattle.answer.specs.declared.Refusal.TheVariants.{WindowNotAllowed, RegisterNotModelled, NotRunning, FrameLength, FrameCheck, Address, ChainFault, NotGranted, OutputShort, Allowance, LentLength, SendLength, NoDescriptor, AlreadyGranted, EngineRuns, Burst, BlockLength, BlockNumber, BlockCheck, UsedLength, ZeroFill, Event, EventRoom, AnswersShort, EventList, TraceWindow, Blocks, BlockRoom, FrameList, CaptureRoom, CaptureHeader, Magic, Version, LinkType, RecordCut, RecordLengths, ImportRoom}

-- the table of 01, row by row, and behind it those that 02 names
abbrev pub refusal_number : Refusal → ℕ
refusal_number WindowNotAllowed = 1
refusal_number RegisterNotModelled = 2
refusal_number NotRunning = 3
refusal_number FrameLength = 4
refusal_number FrameCheck = 5
refusal_number Address = 6
refusal_number ChainFault = 7
refusal_number NotGranted = 8
refusal_number OutputShort = 9
refusal_number Allowance = 10
refusal_number LentLength = 11
refusal_number SendLength = 12
refusal_number NoDescriptor = 13
refusal_number AlreadyGranted = 14
refusal_number EngineRuns = 15
refusal_number Burst = 16
refusal_number BlockLength = 17
refusal_number BlockNumber = 18
refusal_number BlockCheck = 19
refusal_number UsedLength = 20
refusal_number ZeroFill = 21
refusal_number Event = 22
refusal_number EventRoom = 23
refusal_number AnswersShort = 24
refusal_number EventList = 25
refusal_number TraceWindow = 26
refusal_number Blocks = 27
refusal_number BlockRoom = 28
refusal_number FrameList = 29
refusal_number CaptureRoom = 30
refusal_number CaptureHeader = 31
refusal_number Magic = 32
refusal_number Version = 33
refusal_number LinkType = 34
refusal_number RecordCut = 35
refusal_number RecordLengths = 36
refusal_number ImportRoom = 37

-- "0 done", or the number of the refusal
abbrev pub number_of : {T : Type 0} → Result T Refusal → ℕ
number_of (Ok _) = 0
number_of (Err refusal) = refusal_number refusal
