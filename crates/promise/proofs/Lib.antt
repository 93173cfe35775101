pub mod OneOutcomeLaws
