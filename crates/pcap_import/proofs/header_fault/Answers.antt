use Rattle.pcap_import.proofs.Ways.{cut_header, other_magic, other_version, other_link, right_header}
use Rattle.pcap_import.proofs.header_fault.Goals as goal

pub returns-then-file-lt-HEADER : goal.returns-then-file-lt-HEADER
returns-then-file-lt-HEADER c = search cut_header

pub returns-then-word-ne-MAGIC : goal.returns-then-word-ne-MAGIC
returns-then-word-ne-MAGIC c = search other_magic

pub returns-then-word-ne-VERSION : goal.returns-then-word-ne-VERSION
returns-then-word-ne-VERSION c = search other_version

pub returns-then-word-ne-LINK_TYPE : goal.returns-then-word-ne-LINK_TYPE
returns-then-word-ne-LINK_TYPE c = search other_link

pub returns : goal.returns
returns c = search right_header
