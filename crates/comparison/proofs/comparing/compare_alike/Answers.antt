use Rattle.comparison.proofs.comparing.compare_alike.Goals as goal

pub compare_sound-requires : goal.compare_sound-requires
compare_sound-requires g c = record {
  matched = record { first_sound = c.is_sound.ensures.0 c.if-is_sound.true; second_sound = c.is_sound-then-is_sound.ensures.0 c.if-is_sound-2.true; alphabet = c.requires.same };
  list_room = c.requires.list_room;
  work_room = c.requires.work_room;
}
