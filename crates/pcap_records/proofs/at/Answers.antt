use Rattle.pcap_records.proofs.Laws.{nothing_left, cut_head, cut_frame, unequal, equal}
use Rattle.pcap_records.proofs.at.Goals as goal

pub returns-then-records-place : goal.returns-then-records-place
returns-then-records-place c = nothing_left _ _ c.if-records-place.true

pub returns-then-left-lt-HEAD : goal.returns-then-left-lt-HEAD
returns-then-left-lt-HEAD c = cut_head _ _ c.if-records-place.false c.if-left-lt-HEAD.true

pub returns-then-left-n : goal.returns-then-left-n
returns-then-left-n c = cut_frame _ _ c.if-records-place.false _ c.if-left-lt-HEAD.false c.word-n.ensures c.if-left-n.true

pub returns-then-n-word : goal.returns-then-n-word
returns-then-n-word c =
    unequal _ _ c.if-records-place.false _ c.if-left-lt-HEAD.false c.word-n.ensures c.if-left-n.false _ c.word.ensures c.if-n-word.true

pub returns : goal.returns
returns c =
    equal _ _ c.if-records-place.false _ c.if-left-lt-HEAD.false c.word-n.ensures c.if-left-n.false _ c.word.ensures c.if-n-word.false
