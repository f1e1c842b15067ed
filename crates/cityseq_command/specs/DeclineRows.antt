-- Which faults small texts of options can have.
use Rattle.std.specs.Prelude.{true, false, Some, codes}
use Rattle.cj_stream.specs.declared.query.fault.QueryFault.TheVariants.{Memory, UnknownTypeName, BadBox, EmptyBox}
use Rattle.cityseq_command.specs.OptionRows.{no_texts}
use Rattle.cityseq_command.specs.Options.{Texts, DeclinesTexts}

-- a type of an extension, and a text that is no box
abbrev pub shed : Texts
shed = record no_texts { types = Some (codes "+Shed") }

abbrev pub no_box : Texts
no_box = record no_texts { box = Some (codes "1") }

-- memory can be refused to ids, and to LoDs, also behind a type and before a box that is declined
abbrev pub MemoryRows : Type 0
MemoryRows =
    DeclinesTexts false (record no_texts { ids = Some (codes "b") }) Memory
    × DeclinesTexts false (record shed { ids = Some (codes "b") }) Memory
    × DeclinesTexts false (record no_texts { types = Some (codes "Road"); lods = Some (codes "1") }) Memory
    × DeclinesTexts false (record no_box { lods = Some (codes "1") }) Memory

-- it cannot be where no option is given, to types of the table or unknown ones, to a box, or to LoDs behind types that
-- are declined
abbrev pub NoMemoryRows : Type 0
NoMemoryRows =
    ¬ DeclinesTexts false no_texts Memory
    × ¬ DeclinesTexts false (record no_texts { types = Some (codes "Road") }) Memory
    × ¬ DeclinesTexts false shed Memory
    × ¬ DeclinesTexts false no_box Memory
    × ¬ DeclinesTexts false (record shed { lods = Some (codes "1") }) Memory

-- Where types of extensions are known, memory can be refused to one, but not behind a type that is declined; and it can
-- be refused to LoDs behind one.
abbrev pub ExtensionRows : Type 0
ExtensionRows =
    DeclinesTexts true shed Memory
    × DeclinesTexts true (record no_texts { types = Some (codes "Road,+Shed,Shed") }) Memory
    × DeclinesTexts true (record shed { lods = Some (codes "1") }) Memory
    × ¬ DeclinesTexts true (record no_texts { types = Some (codes "Shed,+Shed") }) Memory
    × ¬ DeclinesTexts true (record no_texts { types = Some (codes "Road") }) Memory
    × ¬ DeclinesTexts true shed UnknownTypeName
    × DeclinesTexts true (record no_texts { types = Some (codes "+Shed,Shed") }) UnknownTypeName

-- types come before the box, and each has its own fault
abbrev pub OtherRows : Type 0
OtherRows =
    DeclinesTexts false (record shed { lods = Some (codes "1"); box = Some (codes "1") }) UnknownTypeName
    × ¬ DeclinesTexts false (record shed { lods = Some (codes "1"); box = Some (codes "1") }) BadBox
    × DeclinesTexts false (record no_box { types = Some (codes "Road") }) BadBox
    × ¬ DeclinesTexts false no_box EmptyBox
    × ¬ DeclinesTexts false no_texts BadBox
