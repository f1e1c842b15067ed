use Rattle.cj_geometry.proofs.Numbers.{one_grammar, atom_number, held_number, held_class}
use Rattle.cj_geometry.proofs.grammar.one_grammar_of_numbers.Goals as goal

pub returns : goal.returns
returns c = record { same = one_grammar; atom = atom_number; held = held_number; of_number = held_class }
