-- Which ends the headline speaks of, and which ends no reader makes, by name.
use Rattle.cj_spans.specs.declared.reason.Reason.TheVariants.{Syntax}
use Rattle.cj_stream.specs.declared.ending.End.TheVariants.{Complete, Refused, ReadFault, ReadLimit, WriteFault, Memory}
use Rattle.cj_stream.specs.Cut.{IsUnread}
use Rattle.cj_stream.specs.Meaning.Headline.{IsUnhindered}

-- a failed write and refused memory hinder, and nothing else does
abbrev pub UnhinderedRow : Type 0
UnhinderedRow =
    IsUnhindered Complete × IsUnhindered (Refused 2 26 Syntax) × IsUnhindered ReadFault × IsUnhindered ReadLimit
    × ¬ IsUnhindered WriteFault × ¬ IsUnhindered Memory

-- a failed read and the last of the reads end a run alone
abbrev pub UnreadRow : Type 0
UnreadRow =
    IsUnread Complete × IsUnread (Refused 2 26 Syntax) × IsUnread WriteFault × IsUnread Memory × ¬ IsUnread ReadFault
    × ¬ IsUnread ReadLimit
