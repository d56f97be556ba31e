-- The commands of docs/CONSOLE.md, in its order, each under its row of the table: what it writes, and what it does.
-- Assumes nothing.
use Rattle.std.specs.Prelude.{ℕ, min, List, [], ◌∷◌, ◌++◌, length, take, drop, replicate}
use Rattle.std.specs.Prelude.{if◌then◌else◌}
use Rattle.memory.specs.Memory.{store}
use Rattle.fcs.specs.CheckSequence.{check_number}
use Rattle.window.specs.Window.{in_window, offset}
use Rattle.reading.specs.Reading.{reading_number, reading}
use Rattle.ring.specs.Ring.{sound_ring}
use Rattle.enet.specs.declared.Enet.{Enet}
use Rattle.enet.specs.Device.{new as new_bench}
use Rattle.enet.specs.Access.{read as read_register, write as write_register, interrupt_line}
use Rattle.enet.specs.Frames.{grant as grant_at, receive}
use Rattle.enet.specs.Send.{send as send_into}
use Rattle.enet.specs.Run.{run as run_into}
use Rattle.enet.specs.Tick.{tick as tick_of}
use Rattle.burst.specs.Burst.{burst_of}
use Rattle.words.specs.Words.{characters, rest}
use Rattle.pair_words.specs.PairWords.{every_other}
use Rattle.commands.specs.declared.Console.{Console}
use Rattle.commands.specs.Answers.{Answer, answers, with_device, with_bench}
use Rattle.replies.specs.Replies.{said, either, numbered, valued}
use Rattle.reports.specs.Reports.{read as read_line, held, shown}
use Rattle.long_reports.specs.LongReports.{ran, engines}
use Rattle.list_reports.specs.ListReports.{listed}

-- "The device sees what is lent", the first bytes of memory; the others stay as they are
abbrev pub lent : Console → List ℕ → List ℕ
lent c m = take c.lent m

abbrev pub behind_lent : Console → List ℕ → List ℕ → List ℕ
behind_lent c m l = l ++ drop c.lent m

-- "The output of `send` and `run` is all zero at first", of ROOM bytes, "at most 65536"
unfoldable pub zeros : ℕ → List ℕ
zeros n = replicate n 0

abbrev pub output : ℕ → List ℕ
output room = take room (zeros 65_536)

-- "The numbers of the answer list of `burst` are 99 before the call", ROOM of them, "at most 66"
abbrev pub answer_list : ℕ → List ℕ
answer_list room = take room (replicate 66 99)

-- the pairs of `burst` stand behind BYTES, START before LENGTH; no line names more than 66
abbrev pub starts : ℕ → List ℕ → List ℕ
starts n line = every_other (min n 66) (rest (rest (rest line)))

abbrev pub lengths : ℕ → List ℕ → List ℕ
lengths n line = every_other (min n 66) (rest (rest (rest (rest line))))

-- `new BASE LENGTH`: `new N`. "a new bench over a window of LENGTH bytes, seen from BASE on; memory is all zero, and the window
-- is lent". "`new` sets all 65,544 to zero, also when it answers 1; then the window has no bytes and none are lent."
unfoldable pub new : Console → List ℕ → ℕ → ℕ → Answer
new c m base window =
    let a = new_bench base window in
    answers (with_bench c a) (zeros (length m)) (numbered (characters "new") a.number)

-- `lend LENGTH`: `lend`. "from now on the first LENGTH bytes of memory are lent"
unfoldable pub lend : Console → List ℕ → ℕ → Answer
lend c m n = answers (record { device = c.device; lent = n; lines = c.lines }) m (said (characters "lend"))

-- `read OFFSET`: `read N VALUE`. "register read"
unfoldable pub read_says : Enet → ℕ → List ℕ
read_says d offset = let a = read_register d offset in read_line (characters "read") a.number a.value

-- `write OFFSET VALUE`: `write N`. "register write"
unfoldable pub write : Console → List ℕ → ℕ → ℕ → Answer
write c m offset v = let a = write_register c.device offset v in answers (with_device c a.device) m (numbered (characters "write") a.number)

-- `line`: `line 0` or `line 1`. "the interrupt line, low or high"
unfoldable pub line_says : Enet → List ℕ
line_says d = either (interrupt_line d) (characters "line 1") (characters "line 0")

-- `grant ADDRESS`: `grant N`. "grants the receive descriptor at ADDRESS"
unfoldable pub grant : Console → List ℕ → ℕ → Answer
grant c m address =
    let o = grant_at c.device (lent c m) address in
    answers (with_device c o.device) (behind_lent c m o.memory) (numbered (characters "grant") o.number)

-- `frame BYTES`: `frame N`. "a frame comes in, from destination address to check sequence"
unfoldable pub frame : Console → List ℕ → List ℕ → Answer
frame c m s =
    let o = receive c.device (lent c m) s in
    answers (with_device c o.device) (behind_lent c m o.memory) (numbered (characters "frame") o.number)

-- `burst ROOM BYTES START LENGTH START LENGTH ..`: `burst N A A ..`. "frames out of one store, BYTES, come in by one call: of 0
-- to 66 pairs, in their order, the LENGTH bytes from START on; all ROOM numbers of the answer list"
unfoldable pub burst : Console → List ℕ → List ℕ → List ℕ → List ℕ → List ℕ → Answer
burst c m s ss ns out =
    let b = burst_of c.device (lent c m) s ss ns out in
    answers (with_device c b.device) (behind_lent c m b.memory) (listed (characters "burst") b.number b.answers)

-- `send ROOM`: `send N BYTES`. "a single send into an output of ROOM bytes, at most 65536; the bytes sent"
unfoldable pub send : Console → List ℕ → List ℕ → Answer
send c m out =
    let s = send_into c.device (lent c m) out in
    answers (with_device c s.device) (behind_lent c m s.memory) (shown (characters "send") s.number (take s.count s.output))

-- `run ALLOWANCE ROOM`: `run N STEPS COUNT BYTES`. "a step run of at most ALLOWANCE single sends into an output of ROOM bytes, at
-- most 65536; the last answer, the steps made, how many bytes were sent, the bytes"
unfoldable pub run : Console → List ℕ → ℕ → List ℕ → Answer
run c m allowance out =
    let r = run_into c.device (lent c m) out allowance in
    answers (with_device c r.device) (behind_lent c m r.memory)
    (ran (characters "run") r.number r.steps r.count (take r.count r.output))

-- `tick`: `tick N`. "a tick for the send time-out, with memory lent"
unfoldable pub tick : Console → List ℕ → Answer
tick c m =
    let a = tick_of c.device (lent c m) in
    answers (with_device c a.device) m (numbered (characters "tick") a.number)

-- `show ADDRESS`: `show N BYTES`. "the delivered frame of the descriptor at ADDRESS, without its check sequence"
unfoldable pub show_says : Enet → List ℕ → ℕ → List ℕ
show_says d l address =
    shown (characters "show") (reading_number d.base d.window l address) (reading d.base d.window l address)

-- `ring COUNT ADDRESS`: `ring yes` or `ring no`. "whether COUNT descriptors from ADDRESS on are a sound ring"
unfoldable pub ring_says : Enet → List ℕ → ℕ → ℕ → List ℕ
ring_says d l count address = either (sound_ring d.base d.window l count address) (characters "ring yes") (characters "ring no")

-- `poke ADDRESS BYTES`: `poke ok` or `poke outside`. "the firmware writes BYTES from ADDRESS on". "Where one of the bytes is
-- outside the window the answer is `outside`, and nothing is written."
unfoldable pub poke : Console → List ℕ → ℕ → List ℕ → Answer
poke c m address s =
    let d = c.device in
    if in_window d.base d.window address (length s)
    then answers c (store m (offset d.base address) s) (said (characters "poke ok"))
    else answers c m (said (characters "poke outside"))

-- `peek ADDRESS LENGTH`: `peek BYTES` or `peek outside`. "the firmware reads LENGTH bytes, at most 65536, from ADDRESS on"
unfoldable pub peek_says : Enet → List ℕ → ℕ → ℕ → List ℕ
peek_says d m address n =
    if in_window d.base d.window address n
    then held (characters "peek") (take n (drop (offset d.base address) m))
    else said (characters "peek outside")

-- `check`: `check VALUE`. "the CRC-32 of the window's bytes"
unfoldable pub check_says : Enet → List ℕ → List ℕ
check_says d m = valued (characters "check") (check_number (take d.window m))

-- `state`: `state R PLACE R PLACE`. "whether the engine runs (0 or 1) and its place, of receiving and then of sending"
unfoldable pub state_says : Enet → List ℕ
state_says d =
    let r = d.registers in engines (characters "state") r.rx.running r.rx.place r.tx.running r.tx.place

-- `counters`: `counters DELIVERED LOST SENT COUNT`. "the frames delivered, lost and sent since the bench was made, each
-- at most 4294967295, and the tick count"
unfoldable pub counters_say : Enet → List ℕ
counters_say d =
    let c = d.counters in listed (characters "counters") c.delivered (c.lost ∷ c.sent ∷ c.ticks ∷ [])

-- "A line that is no call writes `error L`, L its line number, and changes nothing"
unfoldable pub error_says : Console → List ℕ
error_says c = numbered (characters "error") c.lines
