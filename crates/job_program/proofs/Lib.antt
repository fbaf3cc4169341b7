mod OneProgram
mod Shared
