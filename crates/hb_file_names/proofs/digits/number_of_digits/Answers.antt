use Rattle.hb_file_names.proofs.DigitsLemmas.{sixteen_digits-from_be_bytes}
use Rattle.hb_file_names.proofs.digits.number_of_digits.Goals as goal

pub returns : goal.returns
returns c = sixteen_digits-from_be_bytes _ _ _ _ c.requires c.decode_to_slice.ensures.value c.from_be_bytes.ensures
